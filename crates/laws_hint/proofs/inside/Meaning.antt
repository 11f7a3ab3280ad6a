-- A table that is busy exactly at the sectors that aren't free by their labels is the map of the free sectors.
use Rattle.std.proofs.Common.{Bool, List, [], ap, arith, false, length, map, not, refl, subst, suc, sym, true, zero, ℕ, ◌<◌, ◌∙◌, ◌∷◌, ◌≡◌}
use Rattle.std.specs.Prelude.{get_or}
use Rattle.std.proofs.lemmas.List.{length-map}
use Rattle.laws_line.specs.disk_records.specs.Packs.{Pack}
use Rattle.laws_line.specs.disk_records.specs.declared.shape.Shape.{Shape}
use Rattle.laws_line.specs.hint_cache.specs.Bits.{busy_at}
use Rattle.laws_line.specs.page_alloc.specs.Free.{IsTrueTable}
use Rattle.laws_line.specs.pack_model.specs.reading.Files.{numbered}
use Rattle.laws_line.specs.pack_model.specs.states.InUse.{is_available, is_free_sight}
use Rattle.laws_line.specs.pack_model.specs.reading.Sights.{Sight, sights}
use Rattle.laws_line.specs.pack_model.specs.reading.Sights.Sight.{free, hidden, holds, leads, stray}
use Rattle.laws_line.specs.pack_model.specs.hints.Tables.{free_table}
use Rattle.laws_line.specs.pack_laws.proofs.Sighted.{length-sights}
use Rattle.laws_line.specs.laws_room.proofs.Found.{found_shown}
use Rattle.laws_hint.proofs.inside.TrueMap.{true_is_free}
use Rattle.laws_hint.specs.MapMeanings.{FreeSectorsAreAvailable, FreeTableIsTrue, OnlyFreeTableIsCompleteAndTrue, TrueTableIsFreeTable, WholePackHasOneKindOfTrueTable}

-- a bit of the map, or one past its end, says whether the sector shows that it is free
pub busy_at-free : (ss : List Sight) (at : ℕ) → busy_at (map (λ s. not (is_free_sight s)) ss) at ≡ not (is_free_sight (get_or ss at hidden))
busy_at-free [] at = refl
busy_at-free (s ∷ ss) zero = refl
busy_at-free (s ∷ ss) (suc at) = busy_at-free ss at

-- a bit that is free in it is free by a test that each free sector passes
free_by : (t : ℕ × Sight → Bool) → ((n : ℕ) (s : Sight) → is_free_sight s ≡ true → t (n, s) ≡ true) → (from : ℕ) (ss : List Sight) (at : ℕ) → busy_at (map (λ s. not (is_free_sight s)) ss) at ≡ false → busy_at (map (λ e. not (t e)) (numbered from ss)) at ≡ false
free_by t passes from [] at e = e
free_by t passes from (s ∷ ss) zero e = ap not (passes from s (by (is_free_sight s) e))
  where
    by : (b : Bool) → not b ≡ false → b ≡ true
    by true e = refl
    by false e = sym e
free_by t passes from (s ∷ ss) (suc at) e = free_by t passes (suc from) ss at e

-- as availability is one
free_available : (shape : Shape) (ss : List Sight) (n : ℕ) (s : Sight) → is_free_sight s ≡ true → is_available shape ss (n, s) ≡ true
free_available shape ss n hidden e = absurd cc
free_available shape ss n free e = refl
free_available shape ss n stray e = absurd cc
free_available shape ss n (leads f readable l) e = absurd cc
free_available shape ss n (holds f k bytes) e = absurd cc

-- tables of one length with the same bits
pub same_bits : (a b : List Bool) → length a ≡ length b → ((at : ℕ) → at < length a → busy_at a at ≡ busy_at b at) → a ≡ b
same_bits [] [] l h = refl
same_bits [] (y ∷ b) l h = absurd (omega (arith, l))
same_bits (x ∷ a) [] l h = absurd (omega (arith, l))
same_bits (x ∷ a) (y ∷ b) l h =
    let here : x ≡ y = h 0 (omega arith) in
    let rest : a ≡ b = same_bits a b (omega (arith, l)) (λ at low. h (suc at) (omega (arith, low))) in
    λ i. here i ∷ rest i

-- a bit for each sector
pub length-free_table : (p : Pack) → length (free_table p) ≡ length p.sectors
length-free_table p = length-map (sights p) (λ s. not (is_free_sight s)) ∙ length-sights p

-- ---- the laws
pub free_table_is_true : FreeTableIsTrue
free_table_is_true p at low = busy_at-free (sights p) at ∙ ap not (sym (found_shown p at))

pub only_free_table_is_complete_and_true : OnlyFreeTableIsCompleteAndTrue
only_free_table_is_complete_and_true p bits each size = (
  λ h. same_bits bits (free_table p) (size ∙ sym each ∙ sym (length-free_table p)) (λ at low. let l = subst (λ n. at < n) size low in h at l ∙ sym (free_table_is_true p at l)),
  λ same. subst (IsTrueTable p) (sym same) (free_table_is_true p),
)

pub free_sectors_are_available : FreeSectorsAreAvailable
free_sectors_are_available p at e = free_by (is_available p.shape (sights p)) (free_available p.shape (sights p)) 0 (sights p) at e

pub true_table_is_free_table : TrueTableIsFreeTable
true_table_is_free_table = true_is_free

pub whole_pack_has_one_kind_of_true_table : WholePackHasOneKindOfTrueTable
whole_pack_has_one_kind_of_true_table p bits w each size =
    let h = only_free_table_is_complete_and_true p bits each size in
    (λ true_by. h.0 true_by ∙ sym (true_is_free p w), λ same. h.1 (same ∙ true_is_free p w))
