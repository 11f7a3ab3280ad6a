-- A record write at or below a bound leaves the rows above it.
use Rattle.std.proofs.Common.{◌≡◌, ◌≢◌, ℕ, zero, suc, ◌+◌, ◌<◌, ◌≤◌, ◌==◌, Bool, true, false, cond, nat_lt, List, [], ◌∷◌, ◌++◌, length, get_or, set, drop, Option, Some, None, refl, sym, ap, subst, ◌∙◌, arith}
use Rattle.std.proofs.lemmas.Bool.Decides.{nat_tests}
use Rattle.std.proofs.lemmas.List.{get_or_default, get_or_past, get_or-set_other, get_or-set_same, length-set, same_lists}
use Rattle.disk_records.specs.declared.records.Event.TheVariants.{Wrote}
use Rattle.disk_records.specs.declared.records.Sector.{Sector}
use Rattle.disk_records.specs.declared.shape.Shape.{Shape}
use Rattle.disk_records.specs.Packs.{Pack, after, sector_at, no_sector, with_part}
use Rattle.scav_table.specs.declared.row.Row.{Row}
use Rattle.scav_table.specs.Laws.{RowsRise, RowsAfterNext, WindowsAreRows, WindowsJoin, RowsAboveStay, PassGoesOn, PassGoesOnOver, WritesAt}
use Rattle.scav_table.specs.Passes.{IsPassed}
use Rattle.scav_table.specs.Rows.{is_above, above, placed, with_row, in_order, row_of, row_at, rows_from, sector_rows, rows, rows_above}
use Rattle.scav_table.proofs.Filling.{length-rows, rows-get}
use Rattle.scav_table.proofs.Passing as passing
use Rattle.scav_table.proofs.Rising.{below_goes, above_comes}
use Rattle.scav_table.proofs.Standing.{higher_last}

-- ---- one row
passed_row : (b s : Option Row) (xs : List Row) → IsPassed b s → above b (with_row s xs) ≡ above b xs
passed_row b None xs l = refl
passed_row b (Some row) xs l = below_goes b row xs l

with_one : (b s : Option Row) (xs ys : List Row) → above b xs ≡ above b ys → above b (with_row s xs) ≡ above b (with_row s ys)
with_one b None xs ys e = e
with_one b (Some row) xs ys e = by_test (is_above b row) refl
  where
    by_test : (t : Bool) → is_above b row ≡ t → above b (placed row xs) ≡ above b (placed row ys)
    by_test true l = above_comes b row xs l ∙ ap (placed row) e ∙ sym (above_comes b row ys l)
    by_test false l = below_goes b row xs l ∙ e ∙ sym (below_goes b row ys l)

in_same : (b : Option Row) (ss : List (Option Row)) (xs ys : List Row) → above b xs ≡ above b ys → above b (in_order xs ss) ≡ above b (in_order ys ss)
in_same b [] xs ys e = e
in_same b (s ∷ ss) xs ys e = in_same b ss (with_row s xs) (with_row s ys) (with_one b s xs ys e)

set_same : (b : Option Row) (ss : List (Option Row)) (i : ℕ) (s : Option Row) (xs : List Row) → IsPassed b (get_or ss i None) → IsPassed b s → above b (in_order xs (set ss i s)) ≡ above b (in_order xs ss)
set_same b [] i s xs old now = refl
set_same b (t ∷ ss) zero s xs old now = in_same b ss (with_row s xs) (with_row t xs) (passed_row b s xs now ∙ sym (passed_row b t xs old))
set_same b (t ∷ ss) (suc i) s xs old now = set_same b ss i s (with_row t xs) old now

-- ---- one sector
rows_from-set : (shape : Shape) (k : ℕ) (ss : List Sector) (i : ℕ) (s : Sector) → rows_from shape k (set ss i s) ≡ set (rows_from shape k ss) i (row_of shape (k + i) s)
unfolding rows_from
rows_from-set shape k [] i s = refl
rows_from-set shape k (t ∷ ss) zero s = let e : k ≡ k + 0 = omega arith in ap (λ n. row_of shape n s ∷ rows_from shape (suc k) ss) e
rows_from-set shape k (t ∷ ss) (suc i) s =
    let e : suc k + i ≡ k + suc i = omega arith in
    ap (λ l. row_of shape k t ∷ l) (rows_from-set shape (suc k) ss i s ∙ ap (λ n. set (rows_from shape (suc k) ss) i (row_of shape n s)) e)

passed_before : (p : Pack) (b : Option Row) (at : ℕ) → IsPassed b (row_at p at) → IsPassed b (get_or (sector_rows p) at None)
passed_before p b at old = by_test (nat_lt at (length p.sectors)) refl
  where
    by_test : (t : Bool) → nat_lt at (length p.sectors) ≡ t → IsPassed b (get_or (sector_rows p) at None)
    by_test true e =
        let inside : at < length p.sectors = grind (arith, nat_tests, e) in
        let start : 0 + at ≡ at = omega arith in
        subst (IsPassed b) (sym (rows-get p.shape 0 p.sectors at None inside ∙ ap (λ k. row_of p.shape k (sector_at p at)) start)) old
    by_test false e =
        let past : length p.sectors ≤ at = grind (arith, nat_tests, e) in
        subst (IsPassed b) (sym (get_or_past (sector_rows p) at None (omega (arith, past, length-rows p.shape 0 p.sectors)))) tt

-- the sectors are as before except one
one_set : {at : ℕ} {p q : Pack} → WritesAt at p q → q.sectors ≡ set p.sectors at (sector_at q at)
one_set {at} {p} {q} w =
    same_lists q.sectors (set p.sectors at (sector_at q at)) (w.size ∙ sym (length-set p.sectors at (sector_at q at)))
    (λ k d inside. get_or_default q.sectors k d no_sector inside ∙ by_test k (k == at) refl (subst (λ n. k < n) w.size inside) ∙ get_or_default (set p.sectors at (sector_at q at)) k no_sector d (subst (λ n. k < n) (w.size ∙ sym (length-set p.sectors at (sector_at q at))) inside))
  where
    by_test : (k : ℕ) (t : Bool) → (k == at) ≡ t → k < length p.sectors → sector_at q k ≡ get_or (set p.sectors at (sector_at q at)) k no_sector
    by_test k true e inside =
        let same : k ≡ at = grind (arith, nat_tests, e) in
        subst (λ i. i < length p.sectors → sector_at q i ≡ get_or (set p.sectors at (sector_at q at)) i no_sector) (sym same) (λ l. sym (get_or-set_same p.sectors at (sector_at q at) no_sector l)) inside
    by_test k false e inside =
        let other : k ≢ at = λ same. (let f = subst (λ i. (i == at) ≡ false) same e in absurd (grind (arith, nat_tests, f))) in
        w.others k other ∙ sym (get_or-set_other p.sectors at k (sector_at q at) no_sector other)

pub stays_over : {at : ℕ} {p q : Pack} (b : Option Row) → WritesAt at p q → IsPassed b (row_at p at) → IsPassed b (row_at q at) → rows_above q b ≡ rows_above p b
unfolding rows_above rows
stays_over {at} {p} {q} b w old now =
    let start : 0 + at ≡ at = omega arith in
    let s : Sector = sector_at q at in
    let written : IsPassed b (row_of p.shape at s) = subst (λ shape. IsPassed b (row_of shape at s)) w.shape now in
    ap (λ shape. above b (in_order [] (rows_from shape 0 q.sectors))) w.shape
    ∙ ap (λ ss. above b (in_order [] (rows_from p.shape 0 ss))) (one_set w)
    ∙ ap (λ l. above b (in_order [] l)) (rows_from-set p.shape 0 p.sectors at s ∙ ap (λ k. set (rows_from p.shape 0 p.sectors) at (row_of p.shape k s)) start)
    ∙ set_same b (rows_from p.shape 0 p.sectors) at (row_of p.shape at s) [] (passed_before p b at old) written

-- ---- one record write
one_written : (p : Pack) (at part : ℕ) (words : List ℕ) → WritesAt at p (after p (Wrote at part words ∷ []))
one_written p at part words = record {
  shape = refl;
  size = length-set p.sectors at (with_part part words (sector_at p at));
  others = λ i other. get_or-set_other p.sectors at i (with_part part words (sector_at p at)) no_sector other;
}

pub rows_above_stay : RowsAboveStay
rows_above_stay p b at part words old now = stays_over b (one_written p at part words) old now

-- ---- a pass
lower_too : (bound last s : Option Row) → ((x : Row) → is_above bound x ≡ true → is_above last x ≡ true) → IsPassed last s → IsPassed bound s
lower_too bound last None higher l = tt
lower_too bound last (Some row) higher l = by_test (is_above bound row) refl
  where
    by_test : (t : Bool) → is_above bound row ≡ t → is_above bound row ≡ false
    by_test true e = let no : true ≡ false = sym (higher row e) ∙ l in cc
    by_test false e = e

pub pass_goes_on_over : PassGoesOnOver
pass_goes_on_over told p q table pass at s w old now = record {
  within = s.within;
  most = s.most;
  low = s.low;
  rises = s.rises;
  higher = s.higher;
  left = λ k.
      let higher : (x : Row) → is_above table.bound x ≡ true → is_above pass.last x ≡ true = λ x e. higher_last pass.last (drop pass.place table.rows) x s.rises (s.higher x e) in
      let below : rows_above q table.bound ≡ rows_above p table.bound = stays_over table.bound w (lower_too table.bound pass.last (row_at p at) higher old) (lower_too table.bound pass.last (row_at q at) higher now) in
      stays_over pass.last w old now ∙ s.left k
      ∙ ap (λ l. drop pass.place table.rows ++ cond (length table.rows == 1024) l []) (sym below);
}

pub pass_goes_on : PassGoesOn
pass_goes_on told p table pass at part words s old now = pass_goes_on_over told p (after p (Wrote at part words ∷ [])) table pass at s (one_written p at part words) old now

pub rows_rise : RowsRise
rows_rise = passing.rows_rise

pub rows_after_next : RowsAfterNext
rows_after_next = passing.next_above

pub windows_join : WindowsJoin
windows_join = passing.window_joined

pub windows_are_rows : WindowsAreRows
windows_are_rows = passing.windows_joined
