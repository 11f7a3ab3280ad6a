-- Rows that rise: those above a bound, and one row more.
use Rattle.std.proofs.Common.{◌≡◌, ◌≢◌, ℕ, zero, suc, ◌-◌, ◌<◌, ◌≤◌, Bool, true, false, cond, List, [], ◌∷◌, ◌++◌, length, get_or, take, Option, Some, None, refl, sym, ap, subst, ◌∙◌, arith}
use Rattle.std.proofs.lemmas.Bool.Decides.{nat_tests}
use Rattle.scav_table.specs.declared.row.Row.{Row}
use Rattle.scav_table.specs.Rows.{rank, is_below, is_above, above, Rises, placed, with_row, in_order, last_or, IsLow, AreLow}

-- ---- above a bound
pub further : (b : Option Row) (x y : Row) → is_above b x ≡ true → is_below x y ≡ true → is_above b y ≡ true
further None x y e l = refl
further (Some b) x y e l = grind (arith, nat_tests)

pub all_above : (b : Option Row) (x : Row) (xs : List Row) → is_above b x ≡ true → Rises (Some x) xs → above b xs ≡ xs
all_above b x [] e s = refl
all_above b x (y ∷ ys) e s = ap (λ t. cond t (y ∷ above b ys) (above b ys)) (further b x y e s.0) ∙ ap (λ m. y ∷ m) (all_above b y ys (further b x y e s.0) s.1)

pub above_rises : (a b : Option Row) (xs : List Row) → Rises a xs → Rises b (above b xs)
above_rises a b [] s = tt
above_rises a b (x ∷ xs) s = by_test (above_rises (Some x) b xs s.1) (is_above b x) refl
  where
    by_test : Rises b (above b xs) → (t : Bool) → is_above b x ≡ t → Rises b (cond t (x ∷ above b xs) (above b xs))
    by_test ih true e = (e, subst (Rises (Some x)) (sym (all_above b x xs e s.1)) s.1)
    by_test ih false e = ih

pub above_low : (end : ℕ) (b : Option Row) (xs : List Row) → AreLow end xs → AreLow end (above b xs)
above_low end b [] l = tt
above_low end b (x ∷ xs) l = by_test (above_low end b xs l.1) (is_above b x)
  where
    by_test : AreLow end (above b xs) → (t : Bool) → AreLow end (cond t (x ∷ above b xs) (above b xs))
    by_test ih true = (l.0, ih)
    by_test ih false = ih

pub take_rises : (n : ℕ) (b : Option Row) (xs : List Row) → Rises b xs → Rises b (take n xs)
take_rises zero b xs s = tt
take_rises (suc n) b [] s = tt
take_rises (suc n) b (x ∷ xs) s = (s.0, take_rises n (Some x) xs s.1)

pub take_low : (n end : ℕ) (xs : List Row) → AreLow end xs → AreLow end (take n xs)
take_low zero end xs l = tt
take_low (suc n) end [] l = tt
take_low (suc n) end (x ∷ xs) l = (l.0, take_low n end xs l.1)

-- ---- the last row
pub last_is : (b : Option Row) (xs : List Row) (d : Row) → 1 ≤ length xs → Some (get_or xs (length xs - 1) d) ≡ last_or b xs
last_is b [] d l = absurd (omega arith)
last_is b (x ∷ []) d l = refl
last_is b (x ∷ y ∷ ys) d l =
    let e : suc (suc (length ys)) - 1 ≡ suc (suc (length ys) - 1) = omega arith in
    ap (λ k. Some (get_or (x ∷ y ∷ ys) k d)) e ∙ last_is (Some x) (y ∷ ys) d (omega arith)

-- ---- one row more, by whether it is above
pub below_goes : (b : Option Row) (row : Row) (xs : List Row) → is_above b row ≡ false → above b (placed row xs) ≡ above b xs
below_goes b row [] e = ap (λ t. cond t (row ∷ []) []) e
below_goes b row (x ∷ xs) e = by_test (below_goes b row xs e) (is_below x row)
  where
    by_test : above b (placed row xs) ≡ above b xs → (t : Bool) → above b (cond t (x ∷ placed row xs) (row ∷ x ∷ xs)) ≡ above b (x ∷ xs)
    by_test ih true = ap (λ l. cond (is_above b x) (x ∷ l) l) ih
    by_test ih false = ap (λ t. cond t (row ∷ above b (x ∷ xs)) (above b (x ∷ xs))) e

rises : (b : Option Row) (row x : Row) → is_above b row ≡ true → is_below x row ≡ false → is_above b x ≡ true
rises None row x e l = refl
rises (Some b) row x e l = grind (arith, nat_tests)

pub above_comes : (b : Option Row) (row : Row) (xs : List Row) → is_above b row ≡ true → above b (placed row xs) ≡ placed row (above b xs)
above_comes b row [] e = ap (λ t. cond t (row ∷ []) []) e
above_comes b row (x ∷ xs) e = by_test (above_comes b row xs e) (is_below x row) refl
  where
    after_it : (t : Bool) → is_below x row ≡ true → above b (placed row xs) ≡ placed row (above b xs) → cond t (x ∷ above b (placed row xs)) (above b (placed row xs)) ≡ placed row (cond t (x ∷ above b xs) (above b xs))
    after_it true l ih = ap (λ m. x ∷ m) ih ∙ sym (ap (λ t. cond t (x ∷ placed row (above b xs)) (row ∷ x ∷ above b xs)) l)
    after_it false l ih = ih

    by_test : above b (placed row xs) ≡ placed row (above b xs) → (t : Bool) → is_below x row ≡ t → above b (cond t (x ∷ placed row xs) (row ∷ x ∷ xs)) ≡ placed row (above b (x ∷ xs))
    by_test ih true l = after_it (is_above b x) l ih
    by_test ih false l =
        ap (λ t. cond t (row ∷ above b (x ∷ xs)) (above b (x ∷ xs))) e
        ∙ ap (λ m. row ∷ m) (ap (λ t. cond t (x ∷ above b xs) (above b xs)) (rises b row x e l))
        ∙ sym (ap (λ t. cond t (x ∷ placed row (above b xs)) (row ∷ x ∷ above b xs)) l)
        ∙ sym (ap (λ t. placed row (cond t (x ∷ above b xs) (above b xs))) (rises b row x e l))

-- ---- one row more keeps rows rising, where its sector comes after theirs
other_rank : (at : ℕ) (x row : Row) → x.at < at → row.at ≡ at → at < 65536 → rank x ≡ rank row → ⊥
unfolding rank
other_rank at x row l e few same = omega arith

not_below : (at : ℕ) (x row : Row) → x.at < at → row.at ≡ at → at < 65536 → is_below x row ≡ false → is_below row x ≡ true
not_below at x row l e few h = let n : rank x ≢ rank row = other_rank at x row l e few in grind (arith, nat_tests)

-- rows of sectors below `at`
abbrev pub AreBefore : ℕ → List Row → Type 0
AreBefore at [] = Unit {0}
AreBefore at (x ∷ xs) = (x.at < at) × AreBefore at xs

pub low_before : (at : ℕ) (xs : List Row) → AreLow at xs → AreBefore at xs
low_before at [] low = tt
low_before at (x ∷ xs) low = (low.0.within, low_before at xs low.1)

pub before_more : (few more : ℕ) (xs : List Row) → few ≤ more → AreBefore few xs → AreBefore more xs
before_more few more [] l h = tt
before_more few more (x ∷ xs) l h = ((let k = h.0 in omega arith), before_more few more xs l h.1)

pub placed_before : (end : ℕ) (row : Row) (xs : List Row) → row.at < end → AreBefore end xs → AreBefore end (placed row xs)
placed_before end row [] r h = (r, tt)
placed_before end row (x ∷ xs) r h = by_test (placed_before end row xs r h.1) (is_below x row)
  where
    by_test : AreBefore end (placed row xs) → (t : Bool) → AreBefore end (cond t (x ∷ placed row xs) (row ∷ x ∷ xs))
    by_test ih true = (h.0, ih)
    by_test ih false = (r, h)

pub placed_rises : (at : ℕ) (b : Option Row) (row : Row) (xs : List Row) → row.at ≡ at → at < 65536 → AreBefore at xs → is_above b row ≡ true → Rises b xs → Rises b (placed row xs)
placed_rises at b row [] e few low a s = (a, tt)
placed_rises at b row (x ∷ xs) e few low a s = by_test (λ l. placed_rises at (Some x) row xs e few low.1 l s.1) (is_below x row) refl
  where
    by_test : (is_below x row ≡ true → Rises (Some x) (placed row xs)) → (t : Bool) → is_below x row ≡ t → Rises b (cond t (x ∷ placed row xs) (row ∷ x ∷ xs))
    by_test ih true l = (s.0, ih l)
    by_test ih false l = (a, (not_below at x row low.0 e few l, s.1))

pub placed_low : (end : ℕ) (row : Row) (xs : List Row) → IsLow end row → AreLow end xs → AreLow end (placed row xs)
placed_low end row [] r low = (r, tt)
placed_low end row (x ∷ xs) r low = by_test (placed_low end row xs r low.1) (is_below x row)
  where
    by_test : AreLow end (placed row xs) → (t : Bool) → AreLow end (cond t (x ∷ placed row xs) (row ∷ x ∷ xs))
    by_test ih true = (low.0, ih)
    by_test ih false = (r, low)

pub low_more : (few more : ℕ) (xs : List Row) → few ≤ more → AreLow few xs → AreLow more xs
low_more few more [] l low = tt
low_more few more (x ∷ xs) l low = (record { first = low.0.first; within = (let h = low.0.within in omega arith); below = low.0.below }, low_more few more xs l low.1)

pub in_order-push : (xs : List Row) (ss : List (Option Row)) (s : Option Row) → in_order xs (ss ++ s ∷ []) ≡ with_row s (in_order xs ss)
in_order-push xs [] s = refl
in_order-push xs (t ∷ ss) s = in_order-push (with_row t xs) ss s
