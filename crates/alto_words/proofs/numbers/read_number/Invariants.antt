-- The value so far is that of the digits so far, and below the power of ten of their number.
use Rattle.std.proofs.Common.{◌≡◌, ◌<◌, ◌^◌, take, true}
use Rattle.std.specs.List.{list_all}
use Rattle.alto_words.specs.Names.{is_digit}
use Rattle.alto_words.specs.Names.{decimal_value}
use Rattle.alto_words.proofs.numbers.read_number.Given as goal

abbrev pub invariant-loop-digit : goal.invariant-loop-digit
invariant-loop-digit l = record {
  value : l.value ≡ decimal_value (take l.digit-index l.text);
  digits : list_all is_digit (take l.digit-index l.text) ≡ true;
  small : l.value < 10 ^ l.digit-index;
}
