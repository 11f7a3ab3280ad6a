-- The table in memory while sectors are reserved, claimed and released.
use Rattle.std.proofs.Common.{All, Bool, List, [], ap, arith, cond, eqb-true, false, inl, inr, length, refl, subst, sym, true, ℕ, ◌++◌, ◌<◌, ◌==◌, ◌∙◌, ◌∷◌, ◌≡◌, ◌≢◌, ◌⊎◌}
use Rattle.std.proofs.lemmas.Cmp.{nat_eq_equiv}
use Rattle.std.proofs.lemmas.List.Elements.{All-contains, All-contains_itself, All-tail}
use Rattle.std.proofs.lemmas.List.Folds.{list_any-append}
use Rattle.std.proofs.lemmas.List.{length-set}
use Rattle.std.proofs.lemmas.Map.Views.{Contains-from_any, list_any-from_Contains}
use Rattle.std.specs.List.{list_any}
use Rattle.std.specs.Prelude.{Contains, get_or, not, set, ◌||◌}
use Rattle.laws_line.specs.disk_records.specs.Packs.{Pack, after, is_free_at}
use Rattle.laws_line.specs.hint_cache.specs.Bits.{busy_at}
use Rattle.laws_line.specs.page_alloc.specs.Free.{IsCorrectedAt}
use Rattle.laws_line.specs.pack_model.specs.hints.Tables.{TableTrue, free_table, true_table}
use Rattle.laws_line.specs.pack_model.specs.states.Whole.{Whole}
use Rattle.laws_hint.proofs.inside.Marking.{marking_sets_listed_bits_alone}
use Rattle.laws_hint.proofs.inside.Meaning.{free_table_is_true, length-free_table, same_bits}
use Rattle.laws_hint.proofs.inside.TrueMap.{true_is_free}
use Rattle.laws_hint.specs.MapChanges.{marked}
use Rattle.laws_hint.specs.MapMeanings.{HasEachSector}
use Rattle.laws_hint.specs.TableLaws.{OperationsUseTheTable, ReservedInAnyOrder, ReservingKeeps, ReservingKeepsTheTable, TableWithoutReserved}

-- ---- marks
abbrev any_at : ℕ → List ℕ → Bool
any_at at ats = list_any (λ i. at == i) ats

length-marked : (busy : Bool) (ats : List ℕ) (table : List Bool) → length (marked busy ats table) ≡ length table
length-marked busy [] table = refl
length-marked busy (at ∷ ats) table = length-marked busy ats (set table at busy) ∙ length-set table at busy

-- what holds of each listed one holds of one that is found
found_all : (P : ℕ → Type 0) (at : ℕ) (ats : List ℕ) → any_at at ats ≡ true → All P ats → P at
found_all P at ats found all = All-contains P ats at all (Contains-from_any {eq = ◌==◌} eqb-true at ats found)

listed_found : (at : ℕ) (ats : List ℕ) → Contains ats at → any_at at ats ≡ true
listed_found at ats c = list_any-from_Contains {eq = ◌==◌} nat_eq_equiv at ats c

all_found : (P : ℕ → Type 0) (ats : List ℕ) → ((at : ℕ) → any_at at ats ≡ true → P at) → All P ats
all_found P ats h = λ k d low. h (get_or ats k d) (listed_found (get_or ats k d) ats (All-contains_itself ats k d low))

later_all : (P : ℕ → Type 0) (front ats : List ℕ) → All P (front ++ ats) → All P ats
later_all P [] ats h = h
later_all P (at ∷ front) ats h = later_all P front ats (All-tail P at (front ++ ats) h)

-- ---- reserving
module _ (p : Pack) (old new : List Bool) (whole : Whole p) (each : HasEachSector p) (was : TableTrue p old) (sized : length new ≡ length old) where
  -- the bits of a true table
  bit_is : (at : ℕ) → at < length new → busy_at (true_table p) at ≡ not (is_free_at p at)
  bit_is at low =
      let same : true_table p ≡ free_table p = true_is_free p whole in
      let long : length old ≡ length p.sectors = ap length (was ∙ same) ∙ length-free_table p in
      ap (λ t. busy_at t at) same ∙ free_table_is_true p at (omega (arith, low, sized, long, each))

  was_bit : (at : ℕ) → busy_at old at ≡ busy_at (true_table p) at
  was_bit at = ap (λ t. busy_at t at) was

  corrected_bit : (at : ℕ) → at < length new → IsCorrectedAt p old new at → busy_at new at ≡ busy_at (true_table p) at
  corrected_bit at low (inl same) = same ∙ was_bit at
  corrected_bit at low (inr says) = says ∙ sym (bit_is at low)

  taken_bit : (taken : List ℕ) → All (λ at. busy_at new at ≡ true) taken → (at : ℕ) → at < length new → IsCorrectedAt p old new at ⊎ Contains taken at → (b : Bool) → any_at at taken ≡ b → busy_at new at ≡ cond b true (busy_at (true_table p) at)
  taken_bit taken busy at low h true e = found_all (λ i. busy_at new i ≡ true) at taken e busy
  taken_bit taken busy at low (inl corrected) false e = corrected_bit at low corrected
  taken_bit taken busy at low (inr among) false e = let both : true ≡ false = sym (listed_found at taken among) ∙ e in absurd cc

  long : length new ≡ length (true_table p)
  long = sized ∙ ap length was

  keeps : ReservingKeeps p old new
  keeps = record {
    taken = λ taken corrected busy free. record {
      bits = same_bits new (marked true taken (true_table p)) (long ∙ sym (length-marked true taken (true_table p))) (λ at low.
          taken_bit taken busy at low (corrected at) (any_at at taken) refl ∙ sym (marking_sets_listed_bits_alone true taken (true_table p) at (subst (λ n. at < n) long low)));
      free = free;
    };
    refused = λ corrected. same_bits new (true_table p) long (λ at low. corrected_bit at low (corrected at));
  }

pub reserving_keeps_the_table : ReservingKeepsTheTable
reserving_keeps_the_table p old new whole each was sized = keeps p old new whole each was sized

pub reserved_in_any_order : ReservedInAnyOrder
reserved_in_any_order p busy one two same h = record {
  bits = h.bits ∙ same_bits (marked true one (true_table p)) (marked true two (true_table p)) (length-marked true one (true_table p) ∙ sym (length-marked true two (true_table p))) (λ at low.
      let short : at < length (true_table p) = subst (λ n. at < n) (length-marked true one (true_table p)) low in
      marking_sets_listed_bits_alone true one (true_table p) at short ∙ ap (λ b. cond b true (busy_at (true_table p) at)) (sym (same at)) ∙ sym (marking_sets_listed_bits_alone true two (true_table p) at short));
  free = all_found (λ at. is_free_at p at ≡ true) two (λ at found. found_all (λ i. is_free_at p i ≡ true) at one (sym (same at) ∙ found) h.free);
}

-- ---- claims and releases
three_marks : (r c s t : Bool) → (r ≡ true → s ≡ true → ⊥) → cond r false (cond c true (cond (c || s) true t)) ≡ cond s true (cond r false (cond c true t))
three_marks true c true t apart = absurd (apart refl refl)
three_marks true c false t apart = refl
three_marks false true true t apart = refl
three_marks false true false t apart = refl
three_marks false false true t apart = refl
three_marks false false false t apart = refl

pub operations_use_the_table : OperationsUseTheTable
operations_use_the_table p events busy claimed rest released h map stays apart used = record {
  bits = same_bits _ _ (size ∙ sym size_after) (λ at low. bit at (subst (λ n. at < n) size low));
  free = all_found (λ at. is_free_at (after p events) at ≡ true) rest (λ at found.
      stays at (found_all (λ i. is_free_at p i ≡ true) at rest found rest_free) (found_all (λ i. All (λ j. i ≢ j) claimed) at rest found apart));
}
  where
    table : List Bool
    table = true_table p

    rest_free : All (λ at. is_free_at p at ≡ true) rest
    rest_free = later_all (λ at. is_free_at p at ≡ true) claimed rest h.free

    size : length (marked false released (marked true claimed busy)) ≡ length table
    size = length-marked false released (marked true claimed busy) ∙ length-marked true claimed busy ∙ ap length h.bits ∙ length-marked true (claimed ++ rest) table

    size_after : length (marked true rest (true_table (after p events))) ≡ length table
    size_after = length-marked true rest (true_table (after p events)) ∙ ap length map ∙ length-marked false released (marked true claimed table) ∙ length-marked true claimed table

    never : (at : ℕ) → any_at at released ≡ true → any_at at rest ≡ true → ⊥
    never at x y =
        let was : is_free_at p at ≡ false = found_all (λ i. is_free_at p i ≡ false) at released x used in
        let is : is_free_at p at ≡ true = found_all (λ i. is_free_at p i ≡ true) at rest y rest_free in
        let both : true ≡ false = sym is ∙ was in cc

    bit : (at : ℕ) → at < length table → busy_at (marked false released (marked true claimed busy)) at ≡ busy_at (marked true rest (true_table (after p events))) at
    bit at low =
        let n1 : length (marked true claimed busy) ≡ length table = length-marked true claimed busy ∙ ap length h.bits ∙ length-marked true (claimed ++ rest) table in
        let n2 : length busy ≡ length table = ap length h.bits ∙ length-marked true (claimed ++ rest) table in
        let n3 : length (marked true claimed table) ≡ length table = length-marked true claimed table in
        let n4 : length (true_table (after p events)) ≡ length table = ap length map ∙ length-marked false released (marked true claimed table) ∙ n3 in
        let left = marking_sets_listed_bits_alone false released (marked true claimed busy) at (subst (λ n. at < n) (sym n1) low) in
        let mid = marking_sets_listed_bits_alone true claimed busy at (subst (λ n. at < n) (sym n2) low) in
        let first = ap (λ t. busy_at t at) h.bits ∙ marking_sets_listed_bits_alone true (claimed ++ rest) table at low ∙ ap (λ b. cond b true (busy_at table at)) (list_any-append (λ i. at == i) claimed rest) in
        let right = marking_sets_listed_bits_alone true rest (true_table (after p events)) at (subst (λ n. at < n) (sym n4) low) in
        let here = ap (λ t. busy_at t at) map ∙ marking_sets_listed_bits_alone false released (marked true claimed table) at (subst (λ n. at < n) (sym n3) low) ∙ ap (λ b. cond (any_at at released) false b) (marking_sets_listed_bits_alone true claimed table at low) in
        left ∙ ap (λ b. cond (any_at at released) false b) (mid ∙ ap (λ b. cond (any_at at claimed) true b) first)
        ∙ three_marks (any_at at released) (any_at at claimed) (any_at at rest) (busy_at table at) (never at)
        ∙ sym (right ∙ ap (λ b. cond (any_at at rest) true b) here)

pub table_without_reserved : TableWithoutReserved
table_without_reserved p busy = record { is_true = λ h. h.bits; reserves = λ e. record { bits = e; free = λ k d low. absurd (omega arith) } }
