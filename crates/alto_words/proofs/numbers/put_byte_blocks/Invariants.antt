use Rattle.std.proofs.Common.{◌≡◌, ◌*◌, ◌≤◌, ◌-◌, length, take}
use Rattle.std.specs.List.{list_all}
use Rattle.alto_words.specs.Numbers.{bytes_if, hex_pairs, is_digit_value}
use Rattle.alto_words.proofs.numbers.put_byte_blocks.Given as goal

abbrev pub invariant-loop-bytes : goal.invariant-loop-bytes
invariant-loop-bytes l = record {
  within : l.at ≤ length l.bytes;
  lanes : length l.greatest ≡ 16;
  bytes : hex_pairs (take (2 * l.at) l.text) ≡ bytes_if (list_all is_digit_value l.greatest) (take l.at l.bytes);
}

abbrev pub decreases-loop-bytes : goal.decreases-loop-bytes
decreases-loop-bytes l = length l.bytes - l.at
