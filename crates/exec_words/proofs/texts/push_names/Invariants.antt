use Rattle.std.proofs.Common.{◌≡◌, ◌++◌, drop}
use Rattle.std.specs.List.{flat_map}
use Rattle.exec_words.specs.Texts.{line_of}
use Rattle.exec_words.proofs.texts.push_names.Given as goal

abbrev pub invariant-loop-name : goal.invariant-loop-name
invariant-loop-name l = l.out.items ++ flat_map line_of (drop l.name-index l.names) ≡ l.fn.out.items ++ flat_map line_of l.names
