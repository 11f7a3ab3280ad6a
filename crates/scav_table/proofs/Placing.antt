-- Where a row is placed among rows that rise, and what is left of a window when its greatest row goes.
use Rattle.std.proofs.Common.{◌≡◌, ℕ, zero, suc, ◌+◌, ◌-◌, ◌<◌, ◌≤◌, Bool, true, false, cond, List, [], ◌∷◌, ◌++◌, length, get_or, set, take, drop, refl, sym, ap, subst, ◌∙◌, arith}
use Rattle.std.proofs.lemmas.List.{take-take, take_all, drop_all, append-nil}
use Rattle.scav_table.specs.declared.row.Row.{Row}
use Rattle.scav_table.specs.Rows.{is_below, placed}

-- after i that are below it, and before the others
pub placed_at : (row : Row) (xs : List Row) (i : ℕ) → i ≤ length xs → ((k : ℕ) (d : Row) → k < i → is_below (get_or xs k d) row ≡ true) → ((d : Row) → i < length xs → is_below (get_or xs i d) row ≡ false) → placed row xs ≡ take i xs ++ row ∷ drop i xs
placed_at row [] zero l below above = refl
placed_at row [] (suc i) l below above = absurd (omega arith)
placed_at row (x ∷ xs) zero l below above = ap (λ b. cond b (x ∷ placed row xs) (row ∷ x ∷ xs)) (above row (omega arith))
placed_at row (x ∷ xs) (suc i) l below above =
    ap (λ b. cond b (x ∷ placed row xs) (row ∷ x ∷ xs)) (below 0 row (omega arith))
    ∙ ap (λ ys. x ∷ ys) (placed_at row xs i (omega arith) (λ k d m. below (suc k) d (omega arith)) (λ d m. above d (omega arith)))

-- ---- the least ones
front : (n : ℕ) (x : Row) (xs : List Row) → take n (x ∷ take n xs) ≡ take n (x ∷ xs)
front zero x xs = refl
front (suc m) x xs = ap (λ ys. x ∷ ys) (take-take m (suc m) xs (omega arith))

by_test : (b : Bool) (x row : Row) (k : ℕ) (xs ys zs : List Row) → take k ys ≡ take k zs → take (suc k) (cond b (x ∷ ys) (row ∷ x ∷ take k xs)) ≡ take (suc k) (cond b (x ∷ zs) (row ∷ x ∷ xs))
by_test true x row k xs ys zs e = ap (λ l. x ∷ l) e
by_test false x row k xs ys zs e = ap (λ l. row ∷ l) (front k x xs)

-- the least k of a list and one row more are those of its least k and the row
pub least_suffice : (row : Row) (xs : List Row) (k : ℕ) → take k (placed row (take k xs)) ≡ take k (placed row xs)
least_suffice row xs zero = refl
least_suffice row [] (suc k) = refl
least_suffice row (x ∷ xs) (suc k) = by_test (is_below x row) x row k xs (placed row (take k xs)) (placed row xs) (least_suffice row xs k)

-- ---- a part that is rotated by one, whose first one is then the row
last_goes : (row x : Row) (xs rest : List Row) → set (drop (length xs) (x ∷ xs) ++ rest) 0 row ≡ row ∷ rest
last_goes row x [] rest = refl
last_goes row x (y ∷ xs) rest = last_goes row y xs rest

abbrev turned : ℕ → List Row → List Row
turned k m = drop k m ++ take k m

whole : (row : Row) (k : ℕ) (x : Row) (xs : List Row) → k ≡ length xs → set (turned k (take (suc k) (x ∷ xs)) ++ drop (suc k) (x ∷ xs)) 0 row ≡ take (suc k) (row ∷ x ∷ xs)
whole row k x xs e =
    subst (λ k. set (turned k (x ∷ take k xs) ++ drop k xs) 0 row ≡ row ∷ take k (x ∷ xs)) (sym e)
    (subst (λ m. set (turned (length xs) (x ∷ m) ++ drop (length xs) xs) 0 row ≡ row ∷ take (length xs) (x ∷ xs)) (sym (take_all (length xs) xs (omega arith)))
    (subst (λ m. set (turned (length xs) (x ∷ xs) ++ m) 0 row ≡ row ∷ take (length xs) (x ∷ xs)) (sym (drop_all (length xs) xs (omega arith)))
    (ap (λ m. set m 0 row) (append-nil (turned (length xs) (x ∷ xs))) ∙ last_goes row x xs (take (length xs) (x ∷ xs)))))

pub in_place : (row : Row) (i k n : ℕ) (xs : List Row) → n ≡ length xs → n ≡ i + suc k → set (take i xs ++ (turned k (take (suc k) (drop i xs)) ++ drop (suc k) (drop i xs))) i row ≡ take n (take i xs ++ row ∷ drop i xs)
in_place row zero k n [] e l = absurd (omega arith)
in_place row (suc i) k n [] e l = absurd (omega arith)
in_place row zero k n (x ∷ xs) e l = subst (λ n. set (turned k (take (suc k) (x ∷ xs)) ++ drop (suc k) (x ∷ xs)) 0 row ≡ take n (row ∷ x ∷ xs)) (let h : suc k ≡ n = omega arith in h) (whole row k x xs (omega arith))
in_place row (suc i) k zero (x ∷ xs) e l = absurd (omega arith)
in_place row (suc i) k (suc n) (x ∷ xs) e l = ap (λ ys. x ∷ ys) (in_place row i k n xs (omega arith) (omega arith))

pub front_stays : (xs ys : List Row) → take (length xs) (xs ++ ys) ≡ xs
front_stays [] ys = refl
front_stays (x ∷ xs) ys = ap (λ zs. x ∷ zs) (front_stays xs ys)

length_drop : (i : ℕ) (xs : List Row) → length (drop i xs) ≡ length xs - i
length_drop zero xs = omega arith
length_drop (suc i) [] = omega arith
length_drop (suc i) (x ∷ xs) = let h : length (drop i xs) ≡ length xs - i = length_drop i xs in omega arith

pub length_from : (i : ℕ) (xs : List Row) → length (take (length xs - i) (drop i xs)) ≡ length xs - i
length_from i xs = let h : length (drop i xs) ≡ length xs - i = length_drop i xs in ap length (take_all (length xs - i) (drop i xs) (omega arith)) ∙ h
