-- Typed bytes as the lines of a session, and what they leave of the keys.
use Rattle.std.proofs.Common.{◌≡◌, [], ◌∷◌, refl}
use Rattle.std.specs.Prelude.{codes}
use Rattle.laws_format.specs.alto_words.specs.Names.{is_stored_name}
use Rattle.laws_format.specs.alto_words.specs.Numbers.{number_in, bytes_in_hex}
use Rattle.laws_format.specs.pack_model.specs.sessions.Lines.{longest_line, most_keys, keys_of}
use Rattle.session_model.specs.exec_words.specs.declared.line.Line.TheVariants as line
use Rattle.session_model.specs.exec_words.specs.declared.line.Target.TheVariants.{BySerial}
use Rattle.session_model.specs.exec_words.specs.Grammar.{line_in}
use Rattle.session_model.specs.Ending.{cues_of, typed_cues}
use Rattle.session_model.specs.Turning.{typed, ended}

nothing_typed : cues_of [] ≡ ended ∷ []
unfolding most_keys
nothing_typed = refl

bad_lines : cues_of (codes "Free\n\nfree  \n") ≡ typed line.Bad ∷ typed line.Bad ∷ typed line.Bad ∷ ended ∷ []
unfolding line_in longest_line most_keys is_stored_name number_in bytes_in_hex
bad_lines = refl

-- the last line has no byte 10 after it
one_line : cues_of (codes "patch #3 1 42") ≡ typed (line.Patch (BySerial 3) 1 (66 ∷ [])) ∷ ended ∷ []
unfolding line_in longest_line most_keys is_stored_name number_in bytes_in_hex
one_line = refl

-- a verb that isn't built yet is a bad line
not_built : cues_of (codes "open A\n") ≡ typed line.Bad ∷ ended ∷ []
unfolding line_in longest_line most_keys is_stored_name number_in bytes_in_hex
not_built = refl

counted : (typed_cues (typed line.Quit ∷ []) ≡ 1) × (typed_cues (typed line.Bad ∷ ended ∷ []) ≡ 1)
counted = (refl, refl)

keys : keys_of (codes "free" ∷ [] ∷ []) ≡ codes "free\n\n"
keys = refl
