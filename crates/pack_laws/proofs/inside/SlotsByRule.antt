-- Slots by a rule of stored names: what words are read as to their end is what their slots are.
use Rattle.std.proofs.Common.{◌≡◌, ℕ, ◌+◌, ◌-◌, ◌%◌, Bool, true, false, cond, List, [], ◌∷◌, ◌++◌, length, take, Some, None, refl, ap, ◌∙◌, arith}
use Rattle.std.specs.Prelude.{◌==◌, ◌&&◌, nat_le}
use Rattle.std.specs.List.{list_all}
use Rattle.std.proofs.lemmas.Bool.{and_parts, cond-true}
use Rattle.std.proofs.lemmas.Bool.Decides.{nat_tests}
use Rattle.std.proofs.lemmas.List.{length-append, take_at, get_or_append_left}
use Rattle.pack_model.specs.alto_words.specs.Fid.{is_full_name}
use Rattle.pack_model.specs.disk_records.specs.Words.{word}
use Rattle.pack_model.specs.reading.Slots.{Item, item_words, and_then, first_length, entry_length, slot_bytes, slot_name, slot_pad, slot_fid}
use Rattle.pack_model.specs.reading.Slots.Item.{space, entry}
use Rattle.pack_model.specs.reading.OtherNames.{Rule, is_entry_by, slot_of_by, slot_at_by, slots_after_by, slots_by, IsSlotBy, ReadsBy}
use Rattle.pack_model.specs.reading.OtherNames.ReadsBy.{none, next}

module _ (rule : Rule) where
  -- words that are passed over
  passed_over : (w rest : List ℕ) → slots_after_by rule (length w) (w ++ rest) ≡ slots_by rule rest
  passed_over [] rest = refl
  passed_over (c ∷ w) rest = passed_over w rest

  -- a slot and what follows it
  slot_ahead : (w rest : List ℕ) (i : Item) → IsSlotBy rule w i → slot_at_by rule (w ++ rest) ≡ Some i
  slot_ahead w rest i slot =
      let some = slot.some in
      let long = length-append w rest in
      let states : first_length (w ++ rest) ≡ length w = ap (λ x. x % 1024) (get_or_append_left w rest 0 0 some) ∙ slot.first in
      let fits : (nat_le 1 (first_length (w ++ rest)) && nat_le (first_length (w ++ rest)) (length (w ++ rest))) ≡ true = grind (arith, nat_tests) in
      cond-true _ (slot_of_by rule (take (first_length (w ++ rest)) (w ++ rest))) None fits
      ∙ ap (λ n. slot_of_by rule (take n (w ++ rest))) states ∙ ap (slot_of_by rule) (take_at w rest (length w) refl) ∙ slot.reads

  slots_ahead : (w rest : List ℕ) (i : Item) → IsSlotBy rule w i → slots_by rule (w ++ rest) ≡ i ∷ slots_by rule rest
  slots_ahead [] rest i slot = let some = slot.some in absurd (omega arith)
  slots_ahead (c ∷ w) rest i slot =
      let size = slot.size in
      let others : item_words i - 1 ≡ length w = omega arith in
      ap (λ o. and_then o (λ n. slots_after_by rule (n - 1) (w ++ rest))) (slot_ahead (c ∷ w) rest i slot)
      ∙ ap (λ n. i ∷ slots_after_by rule n (w ++ rest)) others ∙ ap (λ l. i ∷ l) (passed_over w rest)

  -- words that are slots to their end have these slots
  pub slots_of_reads : (words : List ℕ) (is : List Item) → ReadsBy rule words is → slots_by rule words ≡ is
  slots_of_reads words is none = refl
  slots_of_reads words is (next {w = w} {rest = rest} {i = i} {is = js} split slot reads) =
      ap (slots_by rule) split ∙ slots_ahead w rest i slot ∙ ap (λ l. i ∷ l) (slots_of_reads rest js reads)

-- ---- a rule that takes more names
module _ (old new : Rule) (wider : (name : List ℕ) → old name ≡ true → new name ≡ true) where
  entry_too : (words : List ℕ) → is_entry_by old words ≡ true → is_entry_by new words ≡ true
  entry_too words is =
      let name : List ℕ = slot_name words in
      let f = and_parts _ (is_full_name (slot_fid words)) is in
      let z = and_parts _ (word words 4 == 0) f.0 in
      let p = and_parts _ (list_all (λ b. b == 0) (slot_pad words)) z.0 in
      let n = and_parts (word words 0 == 1024 + length words && length words == entry_length (length name) && length name == word (slot_bytes words) 0) (old name) p.0 in
      let named = wider name n.1 in
      λ i. n.0 i && named i && p.1 i && z.1 i && f.1 i

  slot_too : (words : List ℕ) (i : Item) → slot_of_by old words ≡ Some i → slot_of_by new words ≡ Some i
  slot_too words i is = by (word words 0 == length words) (is_entry_by old words) refl is
    where
      by : (a b : Bool) → is_entry_by old words ≡ b → cond a (Some (space (length words))) (cond b (Some (entry (slot_fid words) (slot_name words))) None) ≡ Some i
          → cond a (Some (space (length words))) (cond (is_entry_by new words) (Some (entry (slot_fid words) (slot_name words))) None) ≡ Some i
      by true b e h = h
      by false true e h = cond-true _ (Some (entry (slot_fid words) (slot_name words))) None (entry_too words e) ∙ h
      by false false e h = absurd cc

  pub reads_too : (words : List ℕ) (is : List Item) → ReadsBy old words is → ReadsBy new words is
  reads_too words is none = none
  reads_too words is (next {w = w} {rest = rest} {i = i} {is = js} split slot reads) =
      next split (record { some = slot.some; most = slot.most; first = slot.first; reads = slot_too w i slot.reads; size = slot.size }) (reads_too rest js reads)
