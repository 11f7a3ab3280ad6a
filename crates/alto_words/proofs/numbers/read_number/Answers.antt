use Rattle.std.proofs.Common.{sym, ◌∙◌, arith}
use Rattle.alto_words.proofs.Reading.{number_in-length, number_in-other, number_in-read}
use Rattle.alto_words.proofs.numbers.read_number.Goals as goal

pub returns-then-is_empty : goal.returns-then-is_empty
returns-then-is_empty c = number_in-length c.args.text.now (grind arith)

pub returns-then-not-is_ascii_digit : goal.returns-then-not-is_ascii_digit
returns-then-not-is_ascii_digit c =
    number_in-other c.args.text.now c.loop-digit.digit-index c.loop-digit-test.true (sym c.if-not-is_ascii_digit.ensures.value)

pub returns : goal.returns
returns c =
    c.ok.ensures.value ∙ number_in-read c.args.text.now c.loop-digit.digit-index c.loop-digit.value c.try_from.result
    (grind arith) (omega arith) c.loop-digit-test.false c.loop-digit.invariant.value c.loop-digit.invariant.digits c.try_from.ensures
