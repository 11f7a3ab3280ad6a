-- What a record write leaves of sectors, and of the pages that they carry.
use Rattle.std.proofs.Common.{List, Some, [], ap, get_or, inl, inr, refl, set, suc, sym, zero, ℕ, ◌∙◌, ◌∷◌, ◌≡◌, ◌⊎◌}
use Rattle.std.proofs.lemmas.Bool.{cases_eq}
use Rattle.laws_contents.specs.alto_words.specs.declared.fid.Fid.{Fid}
use Rattle.laws_contents.specs.disk_records.specs.Labels.{page_of}
use Rattle.laws_contents.specs.disk_records.specs.Packs.{Pack, after, carried, no_sector, sector_at, with_part}
use Rattle.laws_contents.specs.disk_records.specs.declared.records.Event.TheVariants.{Wrote}
use Rattle.laws_contents.specs.disk_records.specs.declared.records.Page.{Page}
use Rattle.laws_contents.specs.disk_records.specs.declared.records.Sector.{Sector}
use Rattle.laws_contents.specs.pack_model.specs.operations.PageWords.{page_number}
use Rattle.laws_contents.specs.pack_laws.proofs.Guarding.{carried_parts, front_from, other_kept, page_on}

-- ---- one record
-- the sector with the record, or past the end none
part_from : (sectors : List Sector) (at part : ℕ) (words : List ℕ) → (get_or (set sectors at (with_part part words (get_or sectors at no_sector))) at no_sector ≡ with_part part words (get_or sectors at no_sector)) ⊎ (get_or (set sectors at (with_part part words (get_or sectors at no_sector))) at no_sector ≡ get_or sectors at no_sector)
part_from [] at part words = inr refl
part_from (s ∷ sectors) zero part words = inl refl
part_from (s ∷ sectors) (suc at) part words = part_from sectors at part words

-- so it is on a pack
pub record_at : (p : Pack) (at part : ℕ) (words : List ℕ) → (sector_at (after p (Wrote at part words ∷ [])) at ≡ with_part part words (sector_at p at)) ⊎ (sector_at (after p (Wrote at part words ∷ [])) at ≡ sector_at p at)
record_at p at part words = part_from p.sectors at part words

-- a sector with the same words carries the same page
pub carried_same : (p q : Pack) (i : ℕ) → q.shape ≡ p.shape → sector_at q i ≡ sector_at p i → carried q i ≡ carried p i
carried_same p q i shape same = λ j. page_on (shape j) i (same j).header (same j).label

-- ---- a value
-- labels stay
pub value_label : (p : Pack) (at i : ℕ) (value : List ℕ) → (sector_at (after p (Wrote at 2 value ∷ [])) i).label ≡ (sector_at p i).label
value_label p at i value = (front_from p.sectors at i value).1

-- ---- a label
-- what is carried then was carried, or is what the label names
pub label_carried : (p : Pack) (at i : ℕ) (label : List ℕ) (x : Page) → carried (after p (Wrote at 1 label ∷ [])) i ≡ Some x → ((i ≡ at) × (page_of label ≡ Some x)) ⊎ (carried p i ≡ Some x)
label_carried p at i label x is = elim (cases_eq i at) [
  | inl e ↦ elim (record_at p at 1 label) [
    | inl new ↦
        let q : Pack = after p (Wrote at 1 label ∷ []) in
        let here : (sector_at q i).label ≡ label = ap (λ n. (sector_at q n).label) e ∙ ap (λ s. s.label) new in
        inl (e, sym (ap page_of here) ∙ (carried_parts q i x is).1)
    | inr old ↦ inr (sym (carried_same p (after p (Wrote at 1 label ∷ [])) i refl (ap (sector_at (after p (Wrote at 1 label ∷ []))) e ∙ old ∙ ap (sector_at p) (sym e))) ∙ is)
  ]
  | inr other ↦ inr (sym (carried_same p (after p (Wrote at 1 label ∷ [])) i refl (other_kept p at 1 label i other)) ∙ is)
]

-- ---- what labels name
-- a label names one page
pub page_one : (label : List ℕ) (x y : Page) → page_of label ≡ Some x → page_of label ≡ Some y → x ≡ y
page_one label x y a b = let both : Some x ≡ Some y = sym a ∙ b in cc

-- of one file
pub names_one : (f : Fid) (n : ℕ) (label : List ℕ) → page_of label ≡ Some (page_number f n) → (x : Page) → page_of label ≡ Some x → x.fid ≡ f
names_one f n label is x e = ap (λ y. y.fid) (page_one label x (page_number f n) e is)

-- and of one number
pub number_one : (f : Fid) (m n : ℕ) (label : List ℕ) → page_of label ≡ Some (page_number f n) → page_of label ≡ Some (page_number f m) → m ≡ n
number_one f m n label a b = ap (λ x. x.number) (page_one label (page_number f m) (page_number f n) b a)
