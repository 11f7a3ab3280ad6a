-- The sectors of a cut.
use Rattle.std.proofs.Common.{List, None, Option, Some, [], ap, arith, le-leb, length, refl, suc, sym, true, zero, ℕ, ◌+◌, ◌/◌, ◌<◌, ◌∙◌, ◌∷◌, ◌≡◌, ◌≤◌}
use Rattle.std.specs.Option.{is_some}
use Rattle.laws_hint.specs.alto_words.specs.declared.fid.Fid.{Fid}
use Rattle.laws_hint.specs.laws_operation.proofs.lengths.Laws.{placed_pages_are_those_up_to_the_last}
use Rattle.laws_hint.specs.laws_operation.specs.ByteLaws.{Bear}
use Rattle.laws_hint.specs.pack_model.specs.operations.Committing.{page_of_byte, pages_cut}
use Rattle.laws_hint.specs.pack_model.specs.reading.Files.{file_bytes, place}
use Rattle.laws_hint.specs.pack_model.specs.reading.Sights.{Sight, sights}
use Rattle.laws_midway.specs.CutLaws.{CutIsOfTheseSectors, WholeFileMayBeCut}

-- ---- pages in a row that have places
record Row (ss : List Sight) (f : Fid) (k count : ℕ) : Type 0 where
  ats : List ℕ
  number : length ats ≡ count
  bear : Bear ss f k ats

some_of : (r : Option ℕ) → is_some r ≡ true → (x : ℕ) × (r ≡ Some x)
some_of None e = absurd cc
some_of (Some x) e = (x, refl)

row : (ss : List Sight) (f : Fid) (k count : ℕ) → ((n : ℕ) → k ≤ n → n < k + count → is_some (place ss f n) ≡ true) → Row ss f k count
row ss f k zero h = record { ats = []; number = refl; bear = tt }
row ss f k (suc count) h =
    let first = some_of (place ss f k) (h k (omega arith) (omega arith)) in
    let rest = row ss f (suc k) count (λ n l m. h n (omega arith) (omega arith)) in
    record { ats = first.0 ∷ rest.ats; number = ap suc rest.number; bear = (first.1, rest.bear) }

pub whole_file_may_be_cut : WholeFileMayBeCut
whole_file_may_be_cut p f n w ordinary live within =
    let b : ℕ = length (file_bytes (sights p) f) in
    let fewer : n / 512 ≤ b / 512 = omega (arith, within) in
    let placed : (m : ℕ) → m ≤ suc (b / 512) → is_some (place (sights p) f m) ≡ true = λ m l. placed_pages_are_those_up_to_the_last p f m w live ∙ le-leb m (page_of_byte b) l in
    let last = some_of (place (sights p) f (page_of_byte n)) (placed (suc (n / 512)) (omega (arith, fewer))) in
    let later = row (sights p) f (suc (page_of_byte n)) (pages_cut b n) (λ m l k. placed m (omega (arith, fewer))) in
    record { at = last.0; later = later.ats; can = record { file = ordinary; sector = last.1; within = within; number = later.number; later_are = later.bear } }

-- ---- one list of sectors
one_some : (r : Option ℕ) (a b : ℕ) → r ≡ Some a → r ≡ Some b → a ≡ b
one_some r a b x y = let both : Some a ≡ Some b = sym x ∙ y in cc

one_row : (ss : List Sight) (f : Fid) (k : ℕ) (a b : List ℕ) → length a ≡ length b → Bear ss f k a → Bear ss f k b → a ≡ b
one_row ss f k [] [] e x y = refl
one_row ss f k [] (j ∷ b) e x y = absurd (omega (arith, e))
one_row ss f k (i ∷ a) [] e x y = absurd (omega (arith, e))
one_row ss f k (i ∷ a) (j ∷ b) e x y =
    let first : i ≡ j = one_some (place ss f k) i j x.0 y.0 in
    let rest : a ≡ b = one_row ss f (suc k) a b (omega (arith, e)) x.1 y.1 in
    λ n. first n ∷ rest n

pub cut_is_of_these_sectors : CutIsOfTheseSectors
cut_is_of_these_sectors p f n at bt later others x y =
    (one_some (place (sights p) f (page_of_byte n)) at bt x.sector y.sector, one_row (sights p) f (suc (page_of_byte n)) later others (x.number ∙ sym y.number) x.later_are y.later_are)
