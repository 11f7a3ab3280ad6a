-- Which rows a pack has: those of its sectors from 1 on. The first of those above a bound is the next row.
use Rattle.std.proofs.Common.{◌≡◌, ℕ, zero, suc, ◌+◌, ◌<◌, ◌≤◌, ◌==◌, ◌&&◌, ◌⊎◌, inl, inr, Any, Bool, true, false, cond, nat_lt, List, [], ◌∷◌, length, get_or, slice_index_or, Option, Some, None, refl, sym, ap, subst, ◌∙◌, arith}
use Rattle.std.proofs.lemmas.Bool.Decides.{nat_tests}
use Rattle.std.proofs.lemmas.List.{get_or_past}
use Rattle.disk_records.specs.declared.records.Page.{Page}
use Rattle.disk_records.specs.declared.records.Sector.{Sector}
use Rattle.disk_records.specs.declared.shape.Shape.{Shape}
use Rattle.disk_records.specs.Addresses.{is_right_header, pages_of, real_of}
use Rattle.disk_records.specs.Labels.{page_of}
use Rattle.disk_records.specs.Packs.{Pack, is_usable, no_sector, sector_at}
use Rattle.disk_records.specs.Words.{word}
use Rattle.disk_records.proofs.Reals.{real_of-above}
use Rattle.scav_table.specs.declared.row.Row.{Row}
use Rattle.scav_table.specs.Laws.{FirstIsLeast, IsNextRow, RowsAreSectors}
use Rattle.scav_table.specs.Passes.{IsPassed, first_of}
use Rattle.scav_table.specs.Rows.{is_above, is_below, above, Rises, placed, row_in, row_of, row_at, rows_from, with_row, in_order, rows, rows_above}
use Rattle.scav_table.proofs.Passing.{rows_rise}
use Rattle.scav_table.proofs.Rising.{above_rises, further}

-- ---- rows of a list
abbrev Has : Row → List Row → Type 0
Has r [] = ⊥
Has r (x ∷ xs) = (x ≡ r) ⊎ Has r xs

abbrev HasSome : Row → List (Option Row) → Type 0
HasSome r [] = ⊥
HasSome r (s ∷ ss) = (s ≡ Some r) ⊎ HasSome r ss

any_has : (r : Row) (xs : List Row) → Has r xs → Any (λ x. x ≡ r) xs
any_has r [] h = absurd h
any_has r (x ∷ xs) h = elim h [
  | inl e ↦ (0, x, omega arith, refl, e)
  | inr k ↦ let a = any_has r xs k in (suc (a.0), a.1, (let l = a.2 in omega arith), a.3, a.4)
]

has_any : (r : Row) (xs : List Row) (k : ℕ) (x : Row) → k < length xs → slice_index_or xs k x ≡ x → x ≡ r → Has r xs
has_any r [] k x l e is = absurd (omega arith)
has_any r (y ∷ ys) zero x l e is = inl (e ∙ is)
has_any r (y ∷ ys) (suc k) x l e is = inr (has_any r ys k x (omega arith) e is)

-- ---- one row more
placed_has : (r row : Row) (xs : List Row) → Has r (placed row xs) → (row ≡ r) ⊎ Has r xs
placed_has r row [] h = h
placed_has r row (x ∷ xs) h = by_test (is_below x row) (placed_has r row xs) h
  where
    by_test : (t : Bool) → (Has r (placed row xs) → (row ≡ r) ⊎ Has r xs) → Has r (cond t (x ∷ placed row xs) (row ∷ x ∷ xs)) → (row ≡ r) ⊎ ((x ≡ r) ⊎ Has r xs)
    by_test true ih (inl e) = inr (inl e)
    by_test true ih (inr k) = elim (ih k) [ inl e ↦ inl e | inr m ↦ inr (inr m) ]
    by_test false ih g = g

has_placed : (r row : Row) (xs : List Row) → (row ≡ r) ⊎ Has r xs → Has r (placed row xs)
has_placed r row [] h = h
has_placed r row (x ∷ xs) h = by_test (is_below x row) (has_placed r row xs) h
  where
    by_test : (t : Bool) → ((row ≡ r) ⊎ Has r xs → Has r (placed row xs)) → (row ≡ r) ⊎ ((x ≡ r) ⊎ Has r xs) → Has r (cond t (x ∷ placed row xs) (row ∷ x ∷ xs))
    by_test true ih (inl e) = inr (ih (inl e))
    by_test true ih (inr (inl e)) = inl e
    by_test true ih (inr (inr m)) = inr (ih (inr m))
    by_test false ih g = g

with_has : (r : Row) (s : Option Row) (xs : List Row) → Has r (with_row s xs) → (s ≡ Some r) ⊎ Has r xs
with_has r None xs h = inr h
with_has r (Some row) xs h = elim (placed_has r row xs h) [ inl e ↦ inl (ap (λ x. Some x) e) | inr m ↦ inr m ]

has_with : (r : Row) (s : Option Row) (xs : List Row) → (s ≡ Some r) ⊎ Has r xs → Has r (with_row s xs)
has_with r None xs (inl e) = absurd (let no : None ≡ Some r = e in cc)
has_with r None xs (inr m) = m
has_with r (Some row) xs (inl e) = has_placed r row xs (inl (let same : Some row ≡ Some r = e in cc))
has_with r (Some row) xs (inr m) = has_placed r row xs (inr m)

order_has : (r : Row) (xs : List Row) (ss : List (Option Row)) → Has r (in_order xs ss) → Has r xs ⊎ HasSome r ss
order_has r xs [] h = inl h
order_has r xs (s ∷ ss) h = elim (order_has r (with_row s xs) ss h) [
  | inl m ↦ elim (with_has r s xs m) [ inl e ↦ inr (inl e) | inr k ↦ inl k ]
  | inr m ↦ inr (inr m)
]

has_order : (r : Row) (xs : List Row) (ss : List (Option Row)) → Has r xs ⊎ HasSome r ss → Has r (in_order xs ss)
has_order r xs [] (inl m) = m
has_order r xs [] (inr m) = absurd m
has_order r xs (s ∷ ss) (inl m) = has_order r (with_row s xs) ss (inl (has_with r s xs (inr m)))
has_order r xs (s ∷ ss) (inr (inl e)) = has_order r (with_row s xs) ss (inl (has_with r s xs (inl e)))
has_order r xs (s ∷ ss) (inr (inr m)) = has_order r (with_row s xs) ss (inr m)

-- ---- the rows of sectors
record IsAmong (shape : Shape) (from : ℕ) (ss : List Sector) (r : Row) : Type 0 where
  i : ℕ
  here : row_of shape (from + i) (get_or ss i no_sector) ≡ Some r

has_from : (shape : Shape) (k : ℕ) (ss : List Sector) (i : ℕ) (r : Row) → i < length ss → row_of shape (k + i) (get_or ss i no_sector) ≡ Some r → HasSome r (rows_from shape k ss)
unfolding rows_from
has_from shape k [] i r l e = absurd (omega arith)
has_from shape k (s ∷ ss) zero r l e = let start : k ≡ k + 0 = omega arith in inl (ap (λ n. row_of shape n s) start ∙ e)
has_from shape k (s ∷ ss) (suc i) r l e = let next : suc k + i ≡ k + suc i = omega arith in inr (has_from shape (suc k) ss i r (omega arith) (ap (λ n. row_of shape n (get_or ss i no_sector)) next ∙ e))

from_has : (shape : Shape) (k : ℕ) (ss : List Sector) (r : Row) → HasSome r (rows_from shape k ss) → IsAmong shape k ss r
unfolding rows_from
from_has shape k [] r h = absurd h
from_has shape k (s ∷ ss) r (inl e) = let start : k + 0 ≡ k = omega arith in record { i = 0; here = ap (λ n. row_of shape n s) start ∙ e }
from_has shape k (s ∷ ss) r (inr m) =
    let a = from_has shape (suc k) ss r m in
    let next : k + suc (a.i) ≡ suc k + a.i = omega arith in
    record { i = suc (a.i); here = ap (λ n. row_of shape n (get_or ss (a.i) no_sector)) next ∙ a.here }

-- a row stands at its sector, which isn't sector 0
row_here : (shape : Shape) (at : ℕ) (s : Sector) (r : Row) → row_of shape at s ≡ Some r → (1 ≤ at) × (r.at ≡ at)
unfolding row_of
row_here shape at s r e = (usable (nat_lt 0 at) refl e, of_page (is_usable shape at s) (page_of s.label) e)
  where
    usable : (t : Bool) → nat_lt 0 at ≡ t → cond (t && is_right_header shape at s.header) (row_in at (word s.label 3) (page_of s.label)) None ≡ Some r → 1 ≤ at
    usable true l h = grind (arith, nat_tests, l)
    usable false l h = absurd (let no : None ≡ Some r = h in cc)

    of_page : (t : Bool) (page : Option Page) → cond t (row_in at (word s.label 3) page) None ≡ Some r → r.at ≡ at
    of_page true (Some page) h = let same : Some (record { page = page; at = at; bytes = word s.label 3 }) ≡ Some r = h in sym (ap (λ x. x.at) (own same))
      where
        own : {x y : Row} → Some x ≡ Some y → x ≡ y
        own is = cc
    of_page true None h = absurd (let no : None ≡ Some r = h in cc)
    of_page false page h = absurd (let no : None ≡ Some r = h in cc)

-- a place past the end has no row
past_none : (shape : Shape) (at : ℕ) → row_of shape at no_sector ≡ None
unfolding row_of
past_none shape at = by_tests (nat_lt 0 at) (nat_lt at (pages_of shape)) (0 == real_of shape at) refl refl refl
  where
    by_tests : (a b c : Bool) → nat_lt 0 at ≡ a → nat_lt at (pages_of shape) ≡ b → (0 == real_of shape at) ≡ c → cond (a && (b && c)) (row_in at (word [] 3) (page_of [])) None ≡ None
    by_tests true true true x y z = absurd (real_of-above shape at (grind (arith, nat_tests, x)) (grind (arith, nat_tests, y)) (grind (arith, nat_tests, z)))
    by_tests true true false x y z = refl
    by_tests true false c x y z = refl
    by_tests false b c x y z = refl

within : (p : Pack) (at : ℕ) (r : Row) → row_at p at ≡ Some r → at < length p.sectors
within p at r e = by_test (nat_lt at (length p.sectors)) refl
  where
    by_test : (t : Bool) → nat_lt at (length p.sectors) ≡ t → at < length p.sectors
    by_test true l = grind (arith, nat_tests, l)
    by_test false l =
        let past : length p.sectors ≤ at = grind (arith, nat_tests, l) in
        let none : row_at p at ≡ None = ap (row_of p.shape at) (get_or_past p.sectors at no_sector past) ∙ past_none p.shape at in
        absurd (let no : None ≡ Some r = sym none ∙ e in cc)

-- ---- the rows of a pack
has_rows : (p : Pack) (at : ℕ) (r : Row) → row_at p at ≡ Some r → Has r (rows p)
unfolding rows
has_rows p at r e =
    let start : 0 + at ≡ at = omega arith in
    has_order r [] (rows_from p.shape 0 p.sectors) (inr (has_from p.shape 0 p.sectors at r (within p at r e) (ap (λ n. row_of p.shape n (sector_at p at)) start ∙ e)))

rows_has : (p : Pack) (r : Row) → Has r (rows p) → (1 ≤ r.at) × (row_at p r.at ≡ Some r)
unfolding rows
rows_has p r h = elim (order_has r [] (rows_from p.shape 0 p.sectors) h) [
  | inl m ↦ absurd m
  | inr m ↦
      let a = from_has p.shape 0 p.sectors r m in
      let start : a.i ≡ 0 + a.i = omega arith in
      let is : row_at p (a.i) ≡ Some r = ap (λ n. row_of p.shape n (sector_at p (a.i))) start ∙ a.here in
      let own = row_here p.shape (a.i) (sector_at p (a.i)) r is in
      (subst (λ n. 1 ≤ n) (sym (own.1)) (own.0), ap (row_at p) (own.1) ∙ is)
]

pub rows_are_sectors : RowsAreSectors
rows_are_sectors p row few = (λ a. rows_has p row (has_any row (rows p) (a.0) (a.1) (a.2) (a.3) (a.4)), λ h. any_has row (rows p) (has_rows p row.at row (h.1)))

-- ---- those above a bound
above_has : (b : Option Row) (r : Row) (xs : List Row) → Has r (above b xs) → Has r xs
above_has b r [] h = h
above_has b r (x ∷ xs) h = by_test (is_above b x) (above_has b r xs) h
  where
    by_test : (t : Bool) → (Has r (above b xs) → Has r xs) → Has r (cond t (x ∷ above b xs) (above b xs)) → (x ≡ r) ⊎ Has r xs
    by_test true ih (inl e) = inl e
    by_test true ih (inr m) = inr (ih m)
    by_test false ih m = inr (ih m)

has_above : (b : Option Row) (r : Row) (xs : List Row) → is_above b r ≡ true → Has r xs → Has r (above b xs)
has_above b r [] l h = h
has_above b r (x ∷ xs) l h = by_test (is_above b x) refl (has_above b r xs l) h
  where
    by_test : (t : Bool) → is_above b x ≡ t → (Has r xs → Has r (above b xs)) → (x ≡ r) ⊎ Has r xs → Has r (cond t (x ∷ above b xs) (above b xs))
    by_test true e ih (inl is) = inl is
    by_test true e ih (inr m) = inr (ih m)
    by_test false e ih (inl is) = absurd (let no : true ≡ false = sym l ∙ ap (is_above b) (sym is) ∙ e in cc)
    by_test false e ih (inr m) = ih m

-- the first of rows that rise is the least of them
not_below : (x r : Row) → is_below x r ≡ true → is_below r x ≡ false
not_below x r e = grind (arith, nat_tests)

rest_above : (x r : Row) (xs : List Row) → Rises (Some x) xs → Has r xs → is_below x r ≡ true
rest_above x r [] s h = absurd h
rest_above x r (y ∷ ys) s (inl e) = subst (λ z. is_below x z ≡ true) e (s.0)
rest_above x r (y ∷ ys) s (inr m) = further (Some x) y r (s.0) (rest_above y r ys (s.1) m)

least : (b : Option Row) (x r : Row) (xs : List Row) → Rises b (x ∷ xs) → Has r (x ∷ xs) → is_below r x ≡ false
least b x r xs s (inl e) = subst (λ z. is_below r z ≡ false) (sym e) (itself r)
  where
    itself : (r : Row) → is_below r r ≡ false
    itself r = grind (arith, nat_tests)
least b x r xs s (inr m) = not_below x r (rest_above x r xs (s.1) m)

next_is : (p : Pack) (last : Option Row) (l : List Row) → Rises last l → ((r : Row) → Has r l → Has r (rows p)) → ((r : Row) → is_above last r ≡ true → Has r (rows p) → Has r l) → IsNextRow p last (first_of l)
next_is p last [] s some all = λ at. by_row at (row_at p at) refl
  where
    by_row : (at : ℕ) (o : Option Row) → row_at p at ≡ o → IsPassed last o
    by_row at None e = tt
    by_row at (Some r) e = by_test (is_above last r) refl
      where
        by_test : (t : Bool) → is_above last r ≡ t → is_above last r ≡ false
        by_test true l = absurd (all r l (has_rows p at r e))
        by_test false l = l
next_is p last (x ∷ xs) s some all = record {
  here = (rows_has p x (some x (inl refl))).1;
  above = s.0;
  least = λ at r e l. least last x r xs s (all r l (has_rows p at r e));
}

pub first_is_least : FirstIsLeast
unfolding rows_above
first_is_least p last few = next_is p last (above last (rows p)) (above_rises None last (rows p) (rows_rise p few)) (λ r. above_has last r (rows p)) (λ r l. has_above last r (rows p) l)
