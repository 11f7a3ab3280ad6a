-- Packs without the clean mark: where it is open, where it is opened, and where a new serial is written.
use Rattle.std.proofs.Common.{List, Some, [], ap, arith, drop, get_or, inl, inr, length, refl, suc, sym, take, zero, ℕ, ◌%◌, ◌++◌, ◌/◌, ◌<◌, ◌∙◌, ◌∷◌, ◌≡◌, ◌⊎◌}
use Rattle.std.proofs.lemmas.List.{set-get_or}
use Rattle.laws_room.specs.alto_words.specs.Fid.{disk_descriptor}
use Rattle.disk_records.specs.Commands.{value_writes}
use Rattle.disk_records.specs.Packs.{Pack, after, no_sector, sector_at}
use Rattle.disk_records.specs.Words.{word}
use Rattle.pack_model.specs.reading.Bytes.{put_at}
use Rattle.pack_model.specs.sessions.Descriptor.{opened_value, serial_value}
use Rattle.pack_model.specs.reading.Files.{place}
use Rattle.pack_model.specs.reading.Model.{descriptor_words}
use Rattle.pack_model.specs.scavenger.Scavenging.{Unmarked}
use Rattle.pack_model.specs.reading.Sights.{sights}
use Rattle.pack_model.specs.states.Sound.{mark_clean, mark_of, mark_open}
use Rattle.pack_model.specs.states.Whole.{Whole}
use Rattle.laws_room.specs.MarkLaws.{OtherMark}
use Rattle.laws_room.specs.laws_record.proofs.Slotwise.{put_here}
use Rattle.laws_room.specs.laws_operation.proofs.FirstWords.{words_written}
use Rattle.laws_room.proofs.marks.Laws.{opened_is_unmarked}

-- ---- words
-- a word that stands there is put there
put_same : (n x : ℕ) (v : List ℕ) → get_or v n 0 ≡ x → 0 < x → (take n v ++ x ∷ []) ++ drop (suc n) v ≡ v
put_same n x [] e l = absurd (omega (arith, e, l))
put_same zero x (y ∷ v) e l = λ i. sym e i ∷ v
put_same (suc n) x (y ∷ v) e l = ap (λ r. y ∷ r) (put_same n x v e l)

-- a word that is put is there, or none is
put_word : (n x : ℕ) (v : List ℕ) → (get_or ((take n v ++ x ∷ []) ++ drop (suc n) v) n 0 ≡ x) ⊎ (get_or ((take n v ++ x ∷ []) ++ drop (suc n) v) n 0 ≡ 0)
put_word zero x [] = inl refl
put_word zero x (y ∷ v) = inl refl
put_word (suc n) x [] = inr refl
put_word (suc n) x (y ∷ v) = put_word n x v

-- words 4 and 5 aren't word 6
put_two : (x y : ℕ) (v : List ℕ) → word (put_at 4 (x ∷ y ∷ []) v) 6 ≡ word v 6
put_two x y [] = refl
put_two x y (a ∷ []) = refl
put_two x y (a ∷ b ∷ []) = refl
put_two x y (a ∷ b ∷ c ∷ []) = refl
put_two x y (a ∷ b ∷ c ∷ d ∷ []) = refl
put_two x y (a ∷ b ∷ c ∷ d ∷ e ∷ []) = refl
put_two x y (a ∷ b ∷ c ∷ d ∷ e ∷ f ∷ v) = refl

-- ---- marks
-- the open mark isn't the clean one
pub opened_mark : (v : List ℕ) → OtherMark (opened_value v)
opened_mark v e = elim (put_word 6 mark_open v) [
  | inl is ↦ (let z : ◌≡◌ {A = ℕ} 2 1 = sym is ∙ e in omega arith)
  | inr none ↦ (let z : ◌≡◌ {A = ℕ} 0 1 = sym none ∙ e in omega arith)
]

-- where the mark is open, the pack is unmarked
pub open_pack_is_unmarked : (p : Pack) → Whole p → mark_of (sights p) ≡ mark_open → Unmarked p
open_pack_is_unmarked p w opened at placed clean =
    let v : List ℕ = (sector_at p at).value in
    let new : List ℕ = mark_clean ∷ [] in
    let one : length new ≡ 1 = refl in
    let h = words_written p w at 6 new placed (omega arith) in
    let long = h.long in
    let same : put_at 6 new v ≡ v = put_same 6 mark_clean v clean (omega arith) in
    let again : after p (value_writes at v) ≡ p = ap (λ ss. record { shape = p.shape; sectors = ss }) (set-get_or p.sectors at no_sector) in
    let words : descriptor_words (sights p) ≡ put_at 6 new (descriptor_words (sights p)) = sym (ap (λ x. descriptor_words (sights (after p (value_writes at x)))) same ∙ ap (λ q. descriptor_words (sights q)) again) ∙ h.words in
    let z : ◌≡◌ {A = ℕ} 2 1 = sym opened ∙ ap (λ ws. word ws 6) words ∙ put_here 6 new (descriptor_words (sights p)) 0 (omega arith) (omega arith) in
    omega arith

-- it is once the mark is opened
pub opened_unmarked : (p : Pack) (at : ℕ) → place (sights p) disk_descriptor 1 ≡ Some at → Unmarked (after p (value_writes at (opened_value (sector_at p at).value)))
opened_unmarked p at placed = opened_is_unmarked p at (opened_value (sector_at p at).value) placed (opened_mark (sector_at p at).value)

-- and stays so where a new serial is written
pub serial_unmarked : (p : Pack) (at last : ℕ) → Unmarked p → place (sights p) disk_descriptor 1 ≡ Some at → Unmarked (after p (value_writes at (serial_value last (sector_at p at).value)))
serial_unmarked p at last unmarked placed = opened_is_unmarked p at (serial_value last (sector_at p at).value) placed (λ e. unmarked at placed (sym (put_two (last / 65536) (last % 65536) (sector_at p at).value) ∙ e))
