-- A window of a fixed length: rows that rise, and no rows after them.
use Rattle.std.proofs.Common.{◌≡◌, ℕ, zero, suc, ◌<◌, ◌≤◌, Bool, true, false, cond, List, [], ◌∷◌, ◌++◌, length, get_or, take, replicate, Option, Some, refl, sym, ap, ◌∙◌, arith}
use Rattle.std.proofs.lemmas.Bool.Decides.{nat_tests}
use Rattle.std.proofs.lemmas.List.{length-replicate, length-append, length-take-le, take_all}
use Rattle.std.specs.List.Sorted.{IsNonDecreasingBy}
use Rattle.std.proofs.lemmas.List.Sorted.{IsNonDecreasingBy-take}
use Rattle.scav_table.specs.declared.row.Row.{Row}
use Rattle.scav_table.specs.Rows.{rank, is_below, Rises, placed, no_row, padded, AreLow}
use Rattle.scav_table.proofs.Placing.{least_suffice}

pub length-padded : (n : ℕ) (xs : List Row) → length (padded n xs) ≡ n
unfolding padded
length-padded n xs = length-take-le n (xs ++ replicate n no_row) (omega (arith, length-append xs (replicate n no_row), length-replicate n no_row))

pub none_padded : (n : ℕ) → replicate n no_row ≡ padded n []
unfolding padded
none_padded n = sym (take_all n (replicate n no_row) (omega (arith, length-replicate n no_row)))

-- ---- one row more
last_placed : (r : Row) (n : ℕ) → is_below no_row r ≡ false → placed r (replicate n no_row) ≡ r ∷ replicate n no_row
last_placed r zero e = refl
last_placed r (suc n) e = ap (λ t. cond t (no_row ∷ placed r (replicate n no_row)) (r ∷ no_row ∷ replicate n no_row)) e

placed-append : (r : Row) (xs : List Row) (n : ℕ) → is_below no_row r ≡ false → placed r (xs ++ replicate n no_row) ≡ placed r xs ++ replicate n no_row
placed-append r [] n e = last_placed r n e
placed-append r (x ∷ xs) n e = by_test (is_below x r) (placed-append r xs n e)
  where
    by_test : (t : Bool) → placed r (xs ++ replicate n no_row) ≡ placed r xs ++ replicate n no_row → cond t (x ∷ placed r (xs ++ replicate n no_row)) (r ∷ x ∷ (xs ++ replicate n no_row)) ≡ cond t (x ∷ placed r xs) (r ∷ x ∷ xs) ++ replicate n no_row
    by_test true ih = ap (λ l. x ∷ l) ih
    by_test false ih = refl

after_all : (r : Row) → is_below r no_row ≡ true → is_below no_row r ≡ false
after_all r e = grind (arith, nat_tests)

pub padded-placed : (n : ℕ) (r : Row) (xs : List Row) → is_below r no_row ≡ true → take n (placed r (padded n xs)) ≡ padded n (placed r xs)
unfolding padded
padded-placed n r xs e = least_suffice r (xs ++ replicate n no_row) n ∙ ap (take n) (placed-append r xs n (after_all r e))

-- ---- a window rises
abbrev Climbs : ℕ → List Row → Type 0
Climbs m [] = Unit {0}
Climbs m (x ∷ xs) = (m ≤ rank x) × Climbs (rank x) xs

least : (m : ℕ) (xs : List Row) (j : ℕ) (d : Row) → Climbs m xs → j < length xs → m ≤ rank (get_or xs j d)
least m [] j d c l = absurd (omega arith)
least m (x ∷ xs) zero d c l = c.0
least m (x ∷ xs) (suc j) d c l = let h : rank x ≤ rank (get_or xs j d) = least (rank x) xs j d c.1 (omega arith) in let k = c.0 in omega arith

climbing : (m : ℕ) (xs : List Row) → Climbs m xs → IsNonDecreasingBy rank xs
climbing m [] c i j d l k = absurd (omega arith)
climbing m (x ∷ xs) c zero zero d l k = omega arith
climbing m (x ∷ xs) c zero (suc j) d l k = least (rank x) xs j d c.1 (omega arith)
climbing m (x ∷ xs) c (suc i) zero d l k = absurd (omega arith)
climbing m (x ∷ xs) c (suc i) (suc j) d l k = climbing (rank x) xs c.1 i j d (omega arith) (omega arith)

flat : (m n : ℕ) → m ≤ rank no_row → Climbs m (replicate n no_row)
flat m zero l = tt
flat m (suc n) l = (l, flat (rank no_row) n (omega arith))

strictly : (x y : Row) → is_below x y ≡ true → rank x ≤ rank y
strictly x y e = grind (arith, nat_tests)

climbs : (b : Row) (xs : List Row) (end n : ℕ) → rank b ≤ rank no_row → Rises (Some b) xs → AreLow end xs → Climbs (rank b) (xs ++ replicate n no_row)
climbs b [] end n l s low = flat (rank b) n l
climbs b (x ∷ xs) end n l s low = (strictly b x s.0, climbs x xs end n (strictly x no_row low.0.below) s.1 low.1)

climbs_all : (b : Option Row) (xs : List Row) (end n : ℕ) → Rises b xs → AreLow end xs → Climbs 0 (xs ++ replicate n no_row)
climbs_all b [] end n s low = flat 0 n (omega arith)
climbs_all b (x ∷ xs) end n s low = (omega arith, climbs x xs end n (strictly x no_row low.0.below) s.1 low.1)

pub padded_rises : (n end : ℕ) (b : Option Row) (xs : List Row) → Rises b xs → AreLow end xs → IsNonDecreasingBy rank (padded n xs)
unfolding padded
padded_rises n end b xs s low = IsNonDecreasingBy-take rank n (xs ++ replicate n no_row) (climbing 0 (xs ++ replicate n no_row) (climbs_all b xs end n s low))
