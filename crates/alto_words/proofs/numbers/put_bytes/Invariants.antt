use Rattle.std.proofs.Common.{◌≡◌, ◌*◌, take}
use Rattle.alto_words.specs.Numbers.{bytes_if, hex_pairs}
use Rattle.alto_words.proofs.numbers.put_bytes.Given as goal

abbrev pub invariant-loop-at : goal.invariant-loop-at
invariant-loop-at l = hex_pairs (take (2 * l.at) l.text) ≡ bytes_if l.all (take l.at l.bytes)
