-- The rows of a window among its items.
use Rattle.std.proofs.Common.{◌≡◌, ℕ, zero, suc, ◌<◌, ◌≤◌, ◌==◌, Bool, true, false, cond, not, List, [], ◌∷◌, ◌++◌, length, get_or, take, replicate, Option, None, Result, Ok, Err, IfOk, OnErr, refl, sym, ap, subst, ◌∙◌, arith}
use Rattle.std.proofs.lemmas.Bool.Decides.{nat_tests}
use Rattle.std.specs.List.Sorted.{IsPartitionedBy}
use Rattle.disk_records.specs.Tapes.{Taped}
use Rattle.scav_table.specs.declared.row.Row.{Row}
use Rattle.scav_table.specs.Filled.{Filled}
use Rattle.scav_table.specs.Rows.{Rises, AreLow, above, no_row, padded, rows_above}
use Rattle.scav_table.specs.Windows.{given, IsWindow, IsFilled}
use Rattle.scav_table.proofs.Padding.{length-padded, none_padded}
use Rattle.scav_table.proofs.Rising.{above_rises, above_low, take_rises, take_low}

abbrev pub has_address : Row → Bool
has_address r = not (r.at == 0)

-- ---- rows, and no rows after them
none_given : (n m : ℕ) → given (take n (replicate m no_row)) ≡ []
none_given zero m = refl
none_given (suc n) zero = refl
none_given (suc n) (suc m) = refl

some_address : (r : Row) → 1 ≤ r.at → (r.at == 0) ≡ false
some_address r l = grind (arith, nat_tests)

low_given : (n m end : ℕ) (xs : List Row) → AreLow end xs → given (take n (xs ++ replicate m no_row)) ≡ take n xs
low_given zero m end xs low = refl
low_given (suc n) m end [] low = none_given (suc n) m
low_given (suc n) m end (x ∷ xs) low =
    ap (λ t. cond t [] (x ∷ given (take n (xs ++ replicate m no_row)))) (some_address x low.0.first)
    ∙ ap (λ l. x ∷ l) (low_given n m end xs low.1)

pub given-padded : (n end : ℕ) (xs : List Row) → AreLow end xs → given (padded n xs) ≡ take n xs
unfolding padded
given-padded n end xs low = low_given n n end xs low

take_padded : (n m : ℕ) (xs : List Row) → take n (take n xs ++ replicate m no_row) ≡ take n (xs ++ replicate m no_row)
take_padded zero m xs = refl
take_padded (suc n) m [] = refl
take_padded (suc n) m (x ∷ xs) = ap (λ l. x ∷ l) (take_padded n m xs)

pub padded-take : (n : ℕ) (xs : List Row) → padded n (take n xs) ≡ padded n xs
unfolding padded
padded-take n xs = take_padded n n xs

-- ---- where the rows of a window end
no_address : (n m j : ℕ) (d : Row) → j < length (take n (replicate m no_row)) → has_address (get_or (take n (replicate m no_row)) j d) ≡ false
no_address zero m j d l = absurd (omega arith)
no_address (suc n) zero j d l = absurd (omega arith)
no_address (suc n) (suc m) zero d l = refl
no_address (suc n) (suc m) (suc j) d l = no_address n m j d (omega arith)

contrary : (b : Bool) → b ≡ false → b ≡ true → ⊥
contrary b f t = let no : true ≡ false = sym t ∙ f in cc

divided : (n m end : ℕ) (xs : List Row) → AreLow end xs → IsPartitionedBy has_address (take n (xs ++ replicate m no_row))
divided zero m end xs low i j d l k e = absurd (omega arith)
divided (suc n) m end [] low i j d l k e = absurd (contrary _ (no_address (suc n) m j d k) e)
divided (suc n) m end (x ∷ xs) low zero j d l k e = ap not (some_address x low.0.first)
divided (suc n) m end (x ∷ xs) low (suc i) zero d l k e = absurd (omega arith)
divided (suc n) m end (x ∷ xs) low (suc i) (suc j) d l k e = divided n m end xs low.1 i j d (omega arith) (omega arith) e

pub padded_divided : (n end : ℕ) (xs : List Row) → AreLow end xs → IsPartitionedBy has_address (padded n xs)
unfolding padded
padded_divided n end xs low = divided n n end xs low

pub window_divided : (n : ℕ) (list : List Row) → IsWindow n list → IsPartitionedBy has_address list
window_divided n list w = subst (IsPartitionedBy has_address) (sym w.padded) (padded_divided n 65536 (given list) w.low)

pub given_ends : (list : List Row) (i : ℕ) → i ≤ length list → ((k : ℕ) (d : Row) → k < i → has_address (get_or list k d) ≡ true) → ((d : Row) → i < length list → has_address (get_or list i d) ≡ false) → take i list ≡ given list
given_ends [] zero l some none = refl
given_ends [] (suc i) l some none = absurd (omega arith)
given_ends (x ∷ xs) zero l some none = by_test (x.at == 0) (none x (omega arith))
  where
    by_test : (t : Bool) → not t ≡ false → [] ≡ cond t [] (x ∷ given xs)
    by_test true e = refl
    by_test false e = cc
given_ends (x ∷ xs) (suc i) l some none = ap (λ l. x ∷ l) (given_ends xs i (omega arith) (λ k d m. some (suc k) d (omega arith)) (λ d m. none d (omega arith))) ∙ by_test (x.at == 0) (some 0 x (omega arith))
  where
    by_test : (t : Bool) → not t ≡ true → x ∷ given xs ≡ cond t [] (x ∷ given xs)
    by_test true e = cc
    by_test false e = refl

pub few_given : (list : List Row) → length (given list) ≤ length list
few_given [] = omega arith
few_given (x ∷ xs) = by_test (x.at == 0) (few_given xs)
  where
    by_test : (t : Bool) → length (given xs) ≤ length xs → length (cond t [] (x ∷ given xs)) ≤ suc (length xs)
    by_test true h = omega arith
    by_test false h = omega (arith, h)

-- ---- after a sweep
pub window_filled : {told : Bool} {t : Taped} {b : Option Row} {bad : ℕ} {list : List Row} (n : ℕ) → length list ≡ n → Filled told t b bad list → IsWindow n list
window_filled {b = b} {list = list} n size f =
    let xs = above b f.seen in
    let low : AreLow 65536 xs = above_low 65536 b f.seen f.low in
    let up : Rises b xs = above_rises None b f.seen f.rises in
    let is : list ≡ padded n xs = f.holds ∙ ap (λ k. padded k xs) size in
    let rs : given list ≡ take n xs = ap given is ∙ given-padded n 65536 xs low in
    record {
      size = size;
      rises = subst (Rises None) (sym rs) (take_rises n None xs (free_rises b xs up));
      low = subst (AreLow 65536) (sym rs) (take_low n 65536 xs low);
      padded = is ∙ sym (padded-take n xs) ∙ ap (padded n) (sym rs);
    }
  where
    free_rises : (b : Option Row) (xs : List Row) → Rises b xs → Rises None xs
    free_rises b [] s = tt
    free_rises b (x ∷ xs) s = (refl, s.1)

take_none : (n : ℕ) → take {A = Row} n [] ≡ []
take_none zero = refl
take_none (suc n) = refl

pub window_cleared : (n : ℕ) (list : List Row) → list ≡ replicate n no_row → IsWindow n list × (given list ≡ [])
window_cleared n list e =
    let is : list ≡ padded n [] = e ∙ none_padded n in
    let rs : given list ≡ [] = ap given is ∙ given-padded n 65536 [] tt ∙ take_none n in (
      record {
        size = ap length is ∙ length-padded n [];
        rises = subst (Rises None) (sym rs) tt;
        low = subst (AreLow 65536) (sym rs) tt;
        padded = is ∙ ap (padded n) (sym rs);
      },
      rs,
    )

pub is_filled : {told : Bool} {t : Taped} {b : Option Row} {bad : ℕ} {list : List Row} → length list ≡ 1024 → Filled told t b bad list → IsFilled told t b (given list) bad
unfolding rows_above
is_filled {told} {t} {b} {bad} {list} size f =
    let xs = above b f.seen in
    let low : AreLow 65536 xs = above_low 65536 b f.seen f.low in
    let up : Rises b xs = above_rises None b f.seen f.rises in
    let rs : given list ≡ take 1024 xs = ap given (f.holds ∙ ap (λ k. padded k xs) size) ∙ given-padded 1024 65536 xs low in
    record {
      rows = λ h. rs ∙ ap (λ l. take 1024 (above b l)) (f.shows h);
      rises = subst (Rises b) (sym rs) (take_rises 1024 b xs up);
      low = subst (AreLow 65536) (sym rs) (take_low 1024 65536 xs low);
      most = few (take 1024 xs) rs (most_taken 1024 xs);
      wrong = f.wrong;
    }
  where
    most_taken : (n : ℕ) (xs : List Row) → length (take n xs) ≤ n
    most_taken zero xs = omega arith
    most_taken (suc n) [] = omega arith
    most_taken (suc n) (x ∷ xs) = let h = most_taken n xs in omega (arith, h)

    few : (l : List Row) → given list ≡ l → length l ≤ 1024 → length (given list) ≤ 1024
    few l e h = subst (λ m. length m ≤ 1024) (sym e) h

-- whatever a sweep answers
pub window_of : {E : Type 0} (told : Bool) (t : Taped) (b : Option Row) (n : ℕ) (list : List Row) (r : Result ℕ E) → length list ≡ n → IfOk r (λ bad. Filled told t b bad list) → OnErr r (list ≡ replicate n no_row) → IsWindow n list
window_of told t b n list (Ok bad) size f e = window_filled n size f
window_of told t b n list (Err x) size f e = (window_cleared n list e).0

pub none_of : {E : Type 0} (n : ℕ) (list : List Row) (r : Result ℕ E) → OnErr r (list ≡ replicate n no_row) → OnErr r (given list ≡ [])
none_of n list (Ok bad) e = tt
none_of n list (Err x) e = (window_cleared n list e).1

pub filled_of : {E : Type 0} (told : Bool) (t : Taped) (b : Option Row) (list : List Row) (r : Result ℕ E) → length list ≡ 1024 → IfOk r (λ bad. Filled told t b bad list) → IfOk r (IsFilled told t b (given list))
filled_of told t b list (Ok bad) size f = is_filled size f
filled_of told t b list (Err x) size f = tt
