-- Entries of a map from numbers, in the order of their keys.
use Rattle.std.proofs.Common.{◌≡◌, ℕ, ◌<◌, ◌≤◌, true, cond, ◌&&◌, List, [], ◌∷◌, ◌++◌, Some, None, Less, Equal, Greater, refl, sym, ap, ◌∙◌, subst, inl, inr, arith}
use Rattle.std.specs.Prelude.{All}
use Rattle.std.specs.BTreeMap.{insert_entry, is_at}
use Rattle.std.specs.Cmp.{nat_cmp_is}
use Rattle.std.specs.List.{filter}
use Rattle.std.specs.Map.{lookup, remove_entry}
use Rattle.std.specs.Ordering.{nat_cmp, match_ordering, is_eq, is_le}
use Rattle.std.proofs.lemmas.Bool.{cases_lt}
use Rattle.std.proofs.lemmas.List.Elements.{All-cons, All-head, All-tail, All-nil}

-- ---- what holds of all of two lists together holds of all of each
pub all_left : {X : Type 0} (P : X → Type 0) (xs ys : List X) → All P (xs ++ ys) → All P xs
all_left P [] ys h = All-nil P
all_left P (x ∷ xs) ys h = All-cons P x xs (All-head P x (xs ++ ys) h) (all_left P xs ys (All-tail P x (xs ++ ys) h))

pub all_right : {X : Type 0} (P : X → Type 0) (xs ys : List X) → All P (xs ++ ys) → All P ys
all_right P [] ys h = h
all_right P (x ∷ xs) ys h = all_right P xs ys (All-tail P x (xs ++ ys) h)

-- ---- keys
abbrev pub AreBelow : ℕ → List (ℕ × ℕ) → Type 0
AreBelow k es = All (λ e. e.0 < k) es

abbrev pub AreAbove : ℕ → List (ℕ × ℕ) → Type 0
AreAbove k es = All (λ e. k < e.0) es

less : (x y : ℕ) → x < y → nat_cmp x y ≡ Less
less x y h = sym (nat_cmp_is x y Less h)

greater : (x y : ℕ) → y < x → nat_cmp x y ≡ Greater
greater x y h = sym (nat_cmp_is x y Greater h)

equal : (x : ℕ) → nat_cmp x x ≡ Equal
equal x = sym (nat_cmp_is x x Equal refl)

-- ---- a key between others
pub insert_between : (xs ys : List (ℕ × ℕ)) (k v : ℕ) → AreBelow k xs → AreAbove k ys → insert_entry nat_cmp (xs ++ ys) k v ≡ xs ++ (k, v) ∷ ys
insert_between [] [] k v below above = refl
insert_between [] (y ∷ ys) k v below above = ap (λ o. match_ordering o ((k, v) ∷ y ∷ ys) ((y.0, v) ∷ ys) (y ∷ insert_entry nat_cmp ys k v)) (less k y.0 (All-head (λ e. k < e.0) y ys above))
insert_between (x ∷ xs) ys k v below above =
    ap (λ o. match_ordering o ((k, v) ∷ x ∷ (xs ++ ys)) ((x.0, v) ∷ (xs ++ ys)) (x ∷ insert_entry nat_cmp (xs ++ ys) k v)) (greater k x.0 (All-head (λ e. e.0 < k) x xs below))
    ∙ ap (λ l. x ∷ l) (insert_between xs ys k v (All-tail (λ e. e.0 < k) x xs below) above)

pub insert_same : (xs ys : List (ℕ × ℕ)) (k u v : ℕ) → AreBelow k xs → insert_entry nat_cmp (xs ++ (k, u) ∷ ys) k v ≡ xs ++ (k, v) ∷ ys
insert_same [] ys k u v below = ap (λ o. match_ordering o ((k, v) ∷ (k, u) ∷ ys) ((k, v) ∷ ys) ((k, u) ∷ insert_entry nat_cmp ys k v)) (equal k)
insert_same (x ∷ xs) ys k u v below =
    ap (λ o. match_ordering o ((k, v) ∷ x ∷ (xs ++ (k, u) ∷ ys)) ((x.0, v) ∷ (xs ++ (k, u) ∷ ys)) (x ∷ insert_entry nat_cmp (xs ++ (k, u) ∷ ys) k v)) (greater k x.0 (All-head (λ e. e.0 < k) x xs below))
    ∙ ap (λ l. x ∷ l) (insert_same xs ys k u v (All-tail (λ e. e.0 < k) x xs below))

pub lookup_past : (xs ys : List (ℕ × ℕ)) (k : ℕ) → AreBelow k xs → lookup (is_at (nat_cmp k)) (xs ++ ys) ≡ lookup (is_at (nat_cmp k)) ys
lookup_past [] ys k below = refl
lookup_past (x ∷ xs) ys k below =
    ap (λ o. cond (is_eq o) (Some x.1) (lookup (is_at (nat_cmp k)) (xs ++ ys))) (greater k x.0 (All-head (λ e. e.0 < k) x xs below))
    ∙ lookup_past xs ys k (All-tail (λ e. e.0 < k) x xs below)

pub lookup_above : (ys : List (ℕ × ℕ)) (k : ℕ) → AreAbove k ys → lookup (is_at (nat_cmp k)) ys ≡ None
lookup_above [] k above = refl
lookup_above (y ∷ ys) k above =
    ap (λ o. cond (is_eq o) (Some y.1) (lookup (is_at (nat_cmp k)) ys)) (less k y.0 (All-head (λ e. k < e.0) y ys above))
    ∙ lookup_above ys k (All-tail (λ e. k < e.0) y ys above)

pub lookup_here : (k v : ℕ) (ys : List (ℕ × ℕ)) → lookup (is_at (nat_cmp k)) ((k, v) ∷ ys) ≡ Some v
lookup_here k v ys = ap (λ o. cond (is_eq o) (Some v) (lookup (is_at (nat_cmp k)) ys)) (equal k)

pub remove_between : (xs ys : List (ℕ × ℕ)) (k v : ℕ) → AreBelow k xs → remove_entry (is_at (nat_cmp k)) (xs ++ (k, v) ∷ ys) ≡ xs ++ ys
remove_between [] ys k v below = ap (λ o. cond (is_eq o) ys ((k, v) ∷ remove_entry (is_at (nat_cmp k)) ys)) (equal k)
remove_between (x ∷ xs) ys k v below =
    ap (λ o. cond (is_eq o) (xs ++ (k, v) ∷ ys) (x ∷ remove_entry (is_at (nat_cmp k)) (xs ++ (k, v) ∷ ys))) (greater k x.0 (All-head (λ e. e.0 < k) x xs below))
    ∙ ap (λ l. x ∷ l) (remove_between xs ys k v (All-tail (λ e. e.0 < k) x xs below))

-- ---- those from a key on
at_or_after : (k y : ℕ) → k ≤ y → (is_le (nat_cmp k y) && true) ≡ true
at_or_after k y h = elim (cases_lt k y) [
  | inl before ↦ ap (λ o. is_le o && true) (less k y before)
  | inr past ↦ let e : y ≡ k = omega arith in subst (λ z. (is_le (nat_cmp k z) && true) ≡ true) (sym e) (ap (λ o. is_le o && true) (equal k))
]

pub keys_from : (xs ys : List (ℕ × ℕ)) (k : ℕ) → AreBelow k xs → All (λ e. k ≤ e.0) ys → filter (λ e. is_le (nat_cmp k e.0) && true) (xs ++ ys) ≡ ys
keys_from [] [] k below above = refl
keys_from [] (y ∷ ys) k below above =
    ap (λ b. cond b (y ∷ filter (λ e. is_le (nat_cmp k e.0) && true) ys) (filter (λ e. is_le (nat_cmp k e.0) && true) ys)) (at_or_after k y.0 (All-head (λ e. k ≤ e.0) y ys above))
    ∙ ap (λ l. y ∷ l) (keys_from [] ys k below (All-tail (λ e. k ≤ e.0) y ys above))
keys_from (x ∷ xs) ys k below above =
    ap (λ o. cond (is_le o && true) (x ∷ filter (λ e. is_le (nat_cmp k e.0) && true) (xs ++ ys)) (filter (λ e. is_le (nat_cmp k e.0) && true) (xs ++ ys))) (greater k x.0 (All-head (λ e. e.0 < k) x xs below))
    ∙ keys_from xs ys k (All-tail (λ e. e.0 < k) x xs below) above
