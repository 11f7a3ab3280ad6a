use Rattle.std.proofs.Common.{◌≡◌, ◌++◌, drop}
use Rattle.std.specs.List.{flat_map}
use Rattle.exec_words.proofs.HexLines.{whole_line}
use Rattle.exec_words.proofs.texts.push_hex_lines.Given as goal

abbrev pub invariant-loop-line : goal.invariant-loop-line
invariant-loop-line l = l.out.items ++ flat_map whole_line (drop l.line-index l.lines) ≡ l.fn.out.items ++ flat_map whole_line l.lines
