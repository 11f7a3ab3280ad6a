-- Lists in order, with one item more.
use Rattle.std.proofs.Common.{◌≡◌, ◌≢◌, Bool, true, false, cond, List, [], ◌∷◌, map, Option, Some, None, Result, Ok, Err, refl, sym, ap, ◌∙◌}
use Rattle.std.specs.Prelude.{◌||◌, OnOk, is_err}
use Rattle.std.specs.declared.cmp.Ordering.{Ordering}
use Rattle.std.specs.declared.cmp.Ordering.TheVariants.{Less, Equal, Greater}
use Rattle.std.specs.Ordering.{is_eq, eq_by_cmp, match_ordering, ordering_reverse}
use Rattle.std.specs.Cmp.{IsTotalOrder, alike_right}
use Rattle.std.specs.List.{list_any}
use Rattle.std.specs.BTreeSet.{insert_key}
use Rattle.std.specs.FinMap.{FinMap, find, entries, entries-insert, from_entries, empty, len-entries, len-empty, put}
use Rattle.std.specs.FinMap.Entries.{by_order}
use Rattle.std.proofs.lemmas.List.{nil_from_length}
use Rattle.pack_model.specs.showing.Listing.{in_order}

-- what a call ensures where it didn't fail
pub when_ok : {T E : Type 0} {P : Type 0} (r : Result T E) → is_err r ≡ false → OnOk r P → P
when_ok (Ok x) ok h = h
when_ok (Err e) ok h = absurd (let h : true ≡ false = ok in cc)

-- an empty map has no entries
pub entries-empty : {K X : Type 0} (R : K → K → Ordering) → entries (empty {X = X} {R = R}) ≡ []
entries-empty {K} {X} R = nil_from_length (entries (empty {X = X} {R = R})) (sym (len-entries (empty {X = X} {R = R})) ∙ len-empty R X)

-- no items in order
pub in_order-none : {X : Type 0} (R : X → X → Ordering) → in_order R [] ≡ []
in_order-none R = ap (map (λ e. e.0)) (entries-empty R)

-- a key that ties with no entry's
pub absent_tail : {X : Type 0} (b : Bool) (x : X) (r : Option X) → cond b (Some x) r ≡ None → (b ≡ false) × (r ≡ None)
absent_tail true x r e = cc
absent_tail false x r e = (refl, e)

pub swap_or : (a b c : Bool) → (a || (b || c)) ≡ (b || (a || c))
swap_or true true c = refl
swap_or true false c = refl
swap_or false b c = refl

-- some entry passes a test once a new key is in its place
pub list_any-put : {K X : Type 0} (R : K → K → Ordering) (t : K × X → Bool) (k : K) (v : X) (es : List (K × X)) → find R k es ≡ None → list_any t (put R k v es) ≡ (t (k, v) || list_any t es)
list_any-put R t k v [] none = refl
list_any-put R t k v (e ∷ es) none =
    let gone = absent_tail (eq_by_cmp R k e.0) e.1 (find R k es) none in
    let rest = list_any-put R t k v es gone.1 in
    elim (R k e.0) as (λ r. is_eq r ≡ false → list_any t (by_order r ((k, v) ∷ e ∷ es) ((e.0, v) ∷ es) (e ∷ put R k v es)) ≡ (t (k, v) || (t e || list_any t es))) [
      | Less ↦ λ _. refl
      | Equal ↦ λ tie. absurd (let h : true ≡ false = tie in cc)
      | Greater ↦ λ _. ap (λ b. t e || b) rest ∙ swap_or (t e) (t (k, v)) (list_any t es)
    ] gone.0

-- ---- keys
-- the keys of entries with one more
pub keys-put : {K X : Type 0} (R : K → K → Ordering) (k : K) (v : X) (es : List (K × X)) → map (λ e. e.0) (put R k v es) ≡ insert_key R (map (λ e. e.0) es) k
keys-put R k v [] = refl
keys-put R k v (e ∷ es) =
    let rest = keys-put R k v es in
    elim (R k e.0) as (λ r. map (λ e. e.0) (by_order r ((k, v) ∷ e ∷ es) ((e.0, v) ∷ es) (e ∷ put R k v es)) ≡ match_ordering r (k ∷ e.0 ∷ map (λ e. e.0) es) (e.0 ∷ map (λ e. e.0) es) (e.0 ∷ insert_key R (map (λ e. e.0) es) k)) [
      | Less ↦ refl
      | Equal ↦ refl
      | Greater ↦ ap (λ l. e.0 ∷ l) rest
    ]

-- an order seen through a map
pub map-insert_key : {K J : Type 0} (R : K → K → Ordering) (S : J → J → Ordering) (g : K → J) → ((x y : K) → R x y ≡ S (g x) (g y)) → (ks : List K) (k : K) → map g (insert_key R ks k) ≡ insert_key S (map g ks) (g k)
map-insert_key R S g same [] k = refl
map-insert_key R S g same (x ∷ ks) k =
    let rest = map-insert_key R S g same ks k in
    elim (R k x) as (λ r. map g (match_ordering r (k ∷ x ∷ ks) (x ∷ ks) (x ∷ insert_key R ks k)) ≡ match_ordering r (g k ∷ g x ∷ map g ks) (g x ∷ map g ks) (g x ∷ insert_key S (map g ks) (g k))) [
      | Less ↦ refl
      | Equal ↦ refl
      | Greater ↦ ap (λ l. g x ∷ l) rest
    ]
    ∙ ap (λ r. match_ordering r (g k ∷ g x ∷ map g ks) (g x ∷ map g ks) (g x ∷ insert_key S (map g ks) (g k))) (same k x)

module _ {K : Type 0} {R : K → K → Ordering} (o : IsTotalOrder R) where
  -- items in order, with one more
  pub in_order-cons : (x : K) (xs : List K) → in_order R (x ∷ xs) ≡ insert_key R (in_order R xs) x
  in_order-cons x xs =
      let m : FinMap R (Unit {0}) = from_entries (map (λ x. (x, tt {0})) xs) in
      ap (map (λ e. e.0)) (entries-insert o m x (tt {0})) ∙ keys-put R x (tt {0}) (entries m)

  reversed : (x y : K) (r : Ordering) → R x y ≡ r → R y x ≡ ordering_reverse r
  reversed x y r e = o.antisymm y x ∙ ap ordering_reverse e

  -- an item before the first, as the first and after it
  less_head : (a b : K) (ks : List K) → R a b ≡ Less → insert_key R (b ∷ ks) a ≡ a ∷ b ∷ ks
  less_head a b ks e = ap (λ r. match_ordering r (a ∷ b ∷ ks) (b ∷ ks) (b ∷ insert_key R ks a)) e

  equal_head : (a b : K) (ks : List K) → R a b ≡ Equal → insert_key R (b ∷ ks) a ≡ b ∷ ks
  equal_head a b ks e = ap (λ r. match_ordering r (a ∷ b ∷ ks) (b ∷ ks) (b ∷ insert_key R ks a)) e

  greater_head : (a b : K) (ks : List K) → R a b ≡ Greater → insert_key R (b ∷ ks) a ≡ b ∷ insert_key R ks a
  greater_head a b ks e = ap (λ r. match_ordering r (a ∷ b ∷ ks) (b ∷ ks) (b ∷ insert_key R ks a)) e

  -- one of them before the head of the list, and the other not
  one_low : (x y k : K) (ks l : List K) → R x k ≡ Less → R x y ≡ Less → insert_key R (k ∷ ks) y ≡ k ∷ l → insert_key R (insert_key R (k ∷ ks) x) y ≡ insert_key R (insert_key R (k ∷ ks) y) x
  one_low x y k ks l e b h =
      ap (λ m. insert_key R m y) (less_head x k ks e)
      ∙ greater_head y x (k ∷ ks) (reversed x y Less b)
      ∙ ap (λ m. x ∷ m) h
      ∙ sym (less_head x k l e)
      ∙ ap (λ m. insert_key R m x) (sym h)

  -- both before it
  both_low : (x y k : K) (ks : List K) → R x k ≡ Less → R y k ≡ Less → R x y ≡ Less → insert_key R (insert_key R (k ∷ ks) x) y ≡ insert_key R (insert_key R (k ∷ ks) y) x
  both_low x y k ks e f b =
      ap (λ m. insert_key R m y) (less_head x k ks e)
      ∙ greater_head y x (k ∷ ks) (reversed x y Less b)
      ∙ ap (λ m. x ∷ m) (less_head y k ks f)
      ∙ sym (less_head x y (k ∷ ks) b)
      ∙ ap (λ m. insert_key R m x) (sym (less_head y k ks f))

  -- one as the head, the other after it
  one_high : (x y k : K) (ks : List K) → R x k ≡ Equal → R y k ≡ Greater → insert_key R (insert_key R (k ∷ ks) x) y ≡ insert_key R (insert_key R (k ∷ ks) y) x
  one_high x y k ks e f =
      ap (λ m. insert_key R m y) (equal_head x k ks e)
      ∙ greater_head y k ks f
      ∙ sym (equal_head x k (insert_key R ks y) e)
      ∙ ap (λ m. insert_key R m x) (sym (greater_head y k ks f))

  -- below the head, and so below what isn't
  below_tied : (x y k : K) → R x k ≡ Less → R y k ≡ Equal → R x y ≡ Less
  below_tied x y k e f = alike_right o y k x f ∙ e

  below_high : (x y k : K) → R x k ≡ Less → R y k ≡ Greater → R x y ≡ Less
  below_high x y k e f = o.trans x k y e (reversed y k Greater f)

  -- two that differ, in either order
  pub insert-swap : (ks : List K) (x y : K) → R x y ≢ Equal → insert_key R (insert_key R ks x) y ≡ insert_key R (insert_key R ks y) x
  insert-swap [] x y apart = elim (R x y) as (λ r. R x y ≡ r → match_ordering (R y x) (y ∷ x ∷ []) (x ∷ []) (x ∷ y ∷ []) ≡ match_ordering r (x ∷ y ∷ []) (y ∷ []) (y ∷ x ∷ [])) [
    | Less ↦ λ e. ap (λ r. match_ordering r (y ∷ x ∷ []) (x ∷ []) (x ∷ y ∷ [])) (reversed x y Less e)
    | Equal ↦ λ e. absurd (apart e)
    | Greater ↦ λ e. ap (λ r. match_ordering r (y ∷ x ∷ []) (x ∷ []) (x ∷ y ∷ [])) (reversed x y Greater e)
  ] refl
  insert-swap (k ∷ ks) x y apart = by (R x k) (R y k) refl refl (insert-swap ks x y apart)
    where
      by_pair : (t : Ordering) → R x y ≡ t → R x k ≡ Less → R y k ≡ Less → insert_key R (insert_key R (k ∷ ks) x) y ≡ insert_key R (insert_key R (k ∷ ks) y) x
      by_pair Less b e f = both_low x y k ks e f b
      by_pair Equal b e f = absurd (apart b)
      by_pair Greater b e f = sym (both_low y x k ks f e (reversed x y Greater b))

      by : (r s : Ordering) → R x k ≡ r → R y k ≡ s → insert_key R (insert_key R ks x) y ≡ insert_key R (insert_key R ks y) x → insert_key R (insert_key R (k ∷ ks) x) y ≡ insert_key R (insert_key R (k ∷ ks) y) x
      by Less Less e f again = by_pair (R x y) refl e f
      by Less Equal e f again = one_low x y k ks ks e (below_tied x y k e f) (equal_head y k ks f)
      by Less Greater e f again = one_low x y k ks (insert_key R ks y) e (below_high x y k e f) (greater_head y k ks f)
      by Equal Less e f again = sym (one_low y x k ks ks f (below_tied y x k f e) (equal_head x k ks e))
      by Equal Equal e f again = ap (λ m. insert_key R m y) (equal_head x k ks e) ∙ equal_head y k ks f ∙ sym (equal_head x k ks e) ∙ ap (λ m. insert_key R m x) (sym (equal_head y k ks f))
      by Equal Greater e f again = one_high x y k ks e f
      by Greater Less e f again = sym (one_low y x k ks (insert_key R ks x) f (below_high y x k f e) (greater_head x k ks e))
      by Greater Equal e f again = sym (one_high y x k ks f e)
      by Greater Greater e f again =
          ap (λ m. insert_key R m y) (greater_head x k ks e)
          ∙ greater_head y k (insert_key R ks x) f
          ∙ ap (λ m. k ∷ m) again
          ∙ sym (greater_head x k (insert_key R ks y) e)
          ∙ ap (λ m. insert_key R m x) (sym (greater_head y k ks f))
