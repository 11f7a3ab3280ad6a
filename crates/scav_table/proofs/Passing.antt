-- The rows above the row in hand.
use Rattle.std.proofs.Common.{◌≡◌, ℕ, zero, suc, ◌+◌, ◌<◌, ◌≤◌, ◌==◌, Bool, true, false, cond, List, [], ◌∷◌, ◌++◌, length, take, drop, Option, Some, None, refl, sym, ap, subst, ◌∙◌, arith}
use Rattle.std.proofs.lemmas.Bool.Decides.{nat_tests}
use Rattle.std.proofs.lemmas.List.{append-nil, take-append-drop}
use Rattle.disk_records.specs.declared.records.Page.{Page}
use Rattle.disk_records.specs.declared.records.Sector.{Sector}
use Rattle.disk_records.specs.declared.shape.Shape.{Shape}
use Rattle.disk_records.specs.Labels.{page_of}
use Rattle.disk_records.specs.Packs.{Pack, is_usable}
use Rattle.disk_records.specs.Words.{word}
use Rattle.scav_table.specs.declared.row.Row.{Row}
use Rattle.scav_table.specs.Rows.{is_below, is_above, above, Rises, last_or, row_in, row_of, rows_from, with_row, in_order, rows, rows_above, window}
use Rattle.scav_table.specs.Laws.{AreWindows}
use Rattle.scav_table.specs.Laws.AreWindows.{more, none}
use Rattle.scav_table.specs.Passes.{after_window}
use Rattle.scav_table.proofs.Rising.{AreBefore, before_more, placed_before, placed_rises, all_above, above_rises}

-- ---- the rows of a pack rise
abbrev IsHere : ℕ → Option Row → Type 0
IsHere at None = Unit {0}
IsHere at (Some r) = r.at ≡ at

here : (shape : Shape) (at : ℕ) (s : Sector) → IsHere at (row_of shape at s)
unfolding row_of
here shape at s = by_test (is_usable shape at s) (page_of s.label)
  where
    by_test : (t : Bool) (page : Option Page) → IsHere at (cond t (row_in at (word s.label 3) page) None)
    by_test true (Some page) = refl
    by_test true None = tt
    by_test false page = tt

with_before : (at : ℕ) (s : Option Row) (xs : List Row) → IsHere at s → AreBefore at xs → AreBefore (suc at) (with_row s xs)
with_before at None xs h b = before_more at (suc at) xs (omega arith) b
with_before at (Some r) xs h b = placed_before (suc at) r xs (omega (arith, h)) (before_more at (suc at) xs (omega arith) b)

with_rises : (at : ℕ) (s : Option Row) (xs : List Row) → IsHere at s → at < 65536 → AreBefore at xs → Rises None xs → Rises None (with_row s xs)
with_rises at None xs h l b up = up
with_rises at (Some r) xs h l b up = placed_rises at None r xs h l b refl up

all_rise : (shape : Shape) (at : ℕ) (ss : List Sector) (xs : List Row) → at + length ss ≤ 65536 → AreBefore at xs → Rises None xs → Rises None (in_order xs (rows_from shape at ss))
unfolding rows_from
all_rise shape at [] xs l b up = up
all_rise shape at (s ∷ ss) xs l b up =
    let h = here shape at s in
    all_rise shape (suc at) ss (with_row (row_of shape at s) xs) (omega arith) (with_before at (row_of shape at s) xs h b) (with_rises at (row_of shape at s) xs h (omega arith) b up)

pub rows_rise : (p : Pack) → length p.sectors ≤ 65536 → Rises None (rows p)
unfolding rows
rows_rise p l = all_rise p.shape 0 p.sectors [] (omega (arith, l)) tt tt

-- ---- the rows above the next one
own : (x : Row) (xs : List Row) → Rises (Some x) xs → above (Some x) xs ≡ xs
own x [] s = refl
own x (y ∷ ys) s = ap (λ t. cond t (y ∷ above (Some x) ys) (above (Some x) ys)) s.0 ∙ ap (λ m. y ∷ m) (all_above (Some x) y ys s.0 s.1)

not_itself : (x : Row) → is_below x x ≡ false
not_itself x = grind (arith, nat_tests)

lower : (b : Option Row) (x y : Row) → is_above b x ≡ true → is_above b y ≡ false → is_below x y ≡ false
lower None x y e n = let no : true ≡ false = n in cc
lower (Some b) x y e n = grind (arith, nat_tests)

-- they are those after it
pub after_next : (a b : Option Row) (xs : List Row) (x : Row) (rest : List Row) → Rises a xs → above b xs ≡ x ∷ rest → is_above b x ≡ true → above (Some x) xs ≡ rest
after_next a b [] x rest s e t = let no : [] ≡ x ∷ rest = e in cc
after_next a b (y ∷ ys) x rest s e t = by_test (λ h. after_next (Some y) b ys x rest s.1 h t) (is_above b y) refl e
  where
    by_test : (above b ys ≡ x ∷ rest → above (Some x) ys ≡ rest) → (u : Bool) → is_above b y ≡ u → cond u (y ∷ above b ys) (above b ys) ≡ x ∷ rest → above (Some x) (y ∷ ys) ≡ rest
    by_test ih true l h =
        let same : y ≡ x = cc in
        let tail : above b ys ≡ rest = cc in
        subst (λ z. above (Some z) (y ∷ ys) ≡ rest) same (ap (λ u. cond u (y ∷ above (Some y) ys) (above (Some y) ys)) (not_itself y) ∙ own y ys s.1 ∙ sym (all_above b y ys l s.1) ∙ tail)
    by_test ih false l h = ap (λ u. cond u (y ∷ above (Some x) ys) (above (Some x) ys)) (lower b x y t l) ∙ ih h

first_above : (a b : Option Row) (xs : List Row) (y : Row) (ys : List Row) → Rises a xs → above b xs ≡ y ∷ ys → is_above b y ≡ true
first_above a b xs y ys s e = (subst (Rises b) e (above_rises a b xs s)).0

pub next_above : (p : Pack) (b : Option Row) (x : Row) (rest : List Row) → length p.sectors ≤ 65536 → rows_above p b ≡ x ∷ rest → rows_above p (Some x) ≡ rest
unfolding rows_above
next_above p b x rest l e = after_next None b (rows p) x rest (rows_rise p l) e (first_above None b (rows p) x rest (rows_rise p l) e)

-- ---- the rows above a window's last one
rest_above : (n : ℕ) (b : Option Row) (xs ys : List Row) → Rises None xs → above b xs ≡ ys → above (last_or b (take n ys)) xs ≡ drop n ys
rest_above zero b xs ys s e = e
rest_above (suc n) b xs [] s e = e
rest_above (suc n) b xs (y ∷ ys) s e = rest_above n (Some y) xs ys s (after_next None b xs y ys s e (first_above None b xs y ys s e))

short : (n : ℕ) (ys : List Row) → (length (take n ys) == n) ≡ false → take n ys ≡ ys
short zero ys e = let no : true ≡ false = e in cc
short (suc n) [] e = refl
short (suc n) (y ∷ ys) e = ap (λ l. y ∷ l) (short n ys (grind (arith, nat_tests, e)))

-- a window and what comes after it
joined : (n : ℕ) (b : Option Row) (xs : List Row) → Rises None xs → above b xs ≡ take n (above b xs) ++ cond (length (take n (above b xs)) == n) (above (last_or b (take n (above b xs))) xs) []
joined n b xs s = by_test (length (take n (above b xs)) == n) refl
  where
    by_test : (t : Bool) → (length (take n (above b xs)) == n) ≡ t → above b xs ≡ take n (above b xs) ++ cond t (above (last_or b (take n (above b xs))) xs) []
    by_test true e = sym (take-append-drop n (above b xs)) ∙ ap (λ l. take n (above b xs) ++ l) (sym (rest_above n b xs (above b xs) s refl))
    by_test false e = sym (short n (above b xs) e) ∙ sym (append-nil (take n (above b xs)))

pub window_joined : (p : Pack) (b : Option Row) → length p.sectors ≤ 65536 → rows_above p b ≡ window p b ++ after_window (length (window p b) == 1024) p (last_or b (window p b))
unfolding rows_above
window_joined p b l = joined 1024 b (rows p) (rows_rise p l)

-- ---- windows one after another
none_taken : (n : ℕ) (ys : List Row) → take (suc n) ys ≡ [] → [] ≡ ys
none_taken n [] e = refl
none_taken n (y ∷ ys) e = cc

windows_above : (p : Pack) (b : Option Row) (all : List Row) → Rises None (rows p) → AreWindows p b all → all ≡ rows_above p b
unfolding rows_above
windows_above p b [] rises (none empty) = none_taken 1023 (above b (rows p)) empty
windows_above p b all rises (more {rest = rest} is windows) =
    is ∙ ap (λ l. window p b ++ l) (windows_above p (last_or b (window p b)) rest rises windows ∙ rest_above 1024 b (rows p) (above b (rows p)) rises refl)
    ∙ take-append-drop 1024 (above b (rows p))

above_none : (xs : List Row) → above None xs ≡ xs
above_none [] = refl
above_none (x ∷ xs) = ap (λ l. x ∷ l) (above_none xs)

pub windows_joined : (p : Pack) (all : List Row) → length p.sectors ≤ 65536 → AreWindows p None all → all ≡ rows p
unfolding rows_above
windows_joined p all few windows = windows_above p None all (rows_rise p few) windows ∙ above_none (rows p)
