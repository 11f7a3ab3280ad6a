use Rattle.std.proofs.Common.{◌≡◌, ◌*◌, take}
use Rattle.alto_words.specs.Numbers.{hex_of}
use Rattle.alto_words.proofs.numbers.put_hex.Given as goal

abbrev pub invariant-loop-at : goal.invariant-loop-at
invariant-loop-at l = take (2 * l.at) l.digits ≡ hex_of (take l.at l.bytes)
