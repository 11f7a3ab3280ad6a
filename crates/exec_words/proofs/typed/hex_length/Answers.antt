use Rattle.std.proofs.Common.{◌≡◌, ℕ, ◌*◌, false, ◌==◌, List, [], ◌∷◌, length, sym, ◌∙◌}
use Rattle.exec_words.specs.Typed.{hex_text}
use Rattle.exec_words.proofs.Operands.{length_hex}
use Rattle.exec_words.proofs.typed.hex_length.Goals as goal

some_length : (bytes : List ℕ) → (length bytes == 0) ≡ false → 2 * length bytes ≡ length (hex_text bytes)
some_length [] some = cc
some_length (b ∷ bytes) some = sym (length_hex (b ∷ bytes))

pub returns-else-is_empty-clause-is : goal.returns-else-is_empty-clause-is
returns-else-is_empty-clause-is c = some_length c.args.bytes.now (sym c.is_empty.ensures ∙ c.if-is_empty.false)
