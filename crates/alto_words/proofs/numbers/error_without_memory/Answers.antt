use Rattle.std.proofs.Common.{sym}
use Rattle.alto_words.proofs.Hex.{pairs_given, pairs_refused}
use Rattle.alto_words.proofs.numbers.error_without_memory.Goals as goal

pub returns-then-has_hex_digits-clause-refused : goal.returns-then-has_hex_digits-clause-refused
returns-then-has_hex_digits-clause-refused c = λ none. absurd (pairs_given c.args.text.now c.requires.even (sym c.if-has_hex_digits.ensures) none)

pub returns-else-has_hex_digits-clause-bad : goal.returns-else-has_hex_digits-clause-bad
returns-else-has_hex_digits-clause-bad c = λ _. pairs_refused c.args.text.now c.requires.even (sym c.if-has_hex_digits.ensures)
