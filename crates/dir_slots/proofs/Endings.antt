-- What the last two words of an entry tell of its name.
use Rattle.std.proofs.Common.{◌≡◌, ℕ, zero, suc, ◌+◌, ◌-◌, ◌*◌, ◌/◌, ◌%◌, ◌≤◌, false, List, ◌∷◌, length, get_or, Some, None, refl, sym, ap, ◌∙◌, arith, inl, inr}
use Rattle.std.proofs.lemmas.Bool.{cases_eq, ne_eqb}
use Rattle.std.proofs.lemmas.Bool.Decides.{nat_tests}
use Rattle.alto_words.specs.Names.{fold_case, is_same_name}
use Rattle.disk_records.specs.Words.{word}
use Rattle.pack_model.specs.reading.Slots.{entry_length, slot_bytes, slot_name}
use Rattle.dir_slots.specs.Inside.{TellsOthers}
use Rattle.dir_slots.proofs.PassedOver.{byte_high, byte_low, other_character, other_long}

fold_low : (c : ℕ) → fold_case c % 32 ≡ c % 32
fold_low c = grind (arith, nat_tests)

-- one with another byte, in its low five bits
other_byte : (words name : List ℕ) (at : ℕ) → length words ≡ entry_length (word words 6 / 256) → length name ≡ word words 6 / 256 → at ≤ length name
    → (word (slot_bytes words) at % 32 ≡ word (length name ∷ name) at % 32 → ⊥) → is_same_name (slot_name words) name ≡ false
other_byte words name zero size long within differs =
    let head : word (slot_bytes words) 0 ≡ word words 6 / 256 = sym (byte_high words 0 (omega (arith, size)) refl) in
    absurd (differs (ap (λ b. b % 32) (head ∙ sym long)))
other_byte words name (suc k) size long within differs =
    let before : suc k - 1 ≡ k = omega arith in
    other_character words name (suc k) size long (omega arith) within
    (ne_eqb _ _ (λ same. differs (sym (fold_low (word (slot_bytes words) (suc k))) ∙ ap (λ c. c % 32) same ∙ fold_low (get_or name (suc k - 1) 0) ∙ ap (λ i. get_or name i 0 % 32) before)))

module _ (words name : List ℕ) (size : length words ≡ entry_length (word words 6 / 256)) where
  -- whatever its length
  other_in : ((length name ≡ word words 6 / 256) → is_same_name (slot_name words) name ≡ false) → is_same_name (slot_name words) name ≡ false
  other_in same_length = elim (cases_eq (length name) (word words 6 / 256)) [
    | inl long ↦ same_length long
    | inr differs ↦ other_long words name size differs
  ]

  tells_last : (word words (length words - 1) / 256 % 32 ≡ word (length name ∷ name) (length name / 2 * 2) % 32 → ⊥) → is_same_name (slot_name words) name ≡ false
  tells_last differs = other_in (λ long.
      let at : ℕ = length name / 2 * 2 in
      let place : 6 + at / 2 ≡ length words - 1 = omega (arith, size, long) in
      other_byte words name at size long (omega arith) (λ same. differs (ap (λ k. word words k / 256 % 32) (sym place) ∙ ap (λ b. b % 32) (byte_high words at (omega (arith, size, long)) (omega arith)) ∙ same)))

  tells_high : 2 ≤ length name → (word words (length words - 1 - 1) / 256 % 32 ≡ word (length name ∷ name) (length name / 2 * 2 - 2) % 32 → ⊥) → is_same_name (slot_name words) name ≡ false
  tells_high least differs = other_in (λ long.
      let at : ℕ = length name / 2 * 2 - 2 in
      let place : 6 + at / 2 ≡ length words - 1 - 1 = omega (arith, size, long, least) in
      other_byte words name at size long (omega arith) (λ same. differs (ap (λ k. word words k / 256 % 32) (sym place) ∙ ap (λ b. b % 32) (byte_high words at (omega (arith, size, long)) (omega (arith, least))) ∙ same)))

  tells_low : 2 ≤ length name → (word words (length words - 1 - 1) % 32 ≡ word (length name ∷ name) (length name / 2 * 2 - 1) % 32 → ⊥) → is_same_name (slot_name words) name ≡ false
  tells_low least differs = other_in (λ long.
      let at : ℕ = length name / 2 * 2 - 1 in
      let place : 6 + at / 2 ≡ length words - 1 - 1 = omega (arith, size, long, least) in
      let five : word words (length words - 1 - 1) % 256 % 32 ≡ word words (length words - 1 - 1) % 32 = omega arith in
      other_byte words name at size long (omega arith) (λ same. differs (sym five ∙ ap (λ k. word words k % 256 % 32) (sym place) ∙ ap (λ b. b % 32) (byte_low words at (omega (arith, size, long)) (λ e. absurd (omega (arith, least, e)))) ∙ same)))

pub tells_others : (name : List ℕ) → 2 ≤ length name → TellsOthers (Some name) (word (length name ∷ name) (length name / 2 * 2) % 32) (word (length name ∷ name) (length name / 2 * 2 - 2) % 32) (word (length name ∷ name) (length name / 2 * 2 - 1) % 32)
tells_others name least = record {
  at_last = λ words size differs. tells_last words name size differs;
  at_high = λ words size differs. tells_high words name size least differs;
  at_low = λ words size differs. tells_low words name size least differs;
}

-- where there is no name, whatever is written
pub tells_none : (last high low : ℕ) → TellsOthers None last high low
tells_none last high low = record { at_last = λ words size differs. tt; at_high = λ words size differs. tt; at_low = λ words size differs. tt }
