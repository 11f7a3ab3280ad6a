-- The entries of a map around one key.
use Rattle.std.proofs.Common.{◌&&◌, ◌++◌, ◌∙◌, ◌∷◌, ◌≡◌, Bool, Equal, Greater, Less, List, None, Some, T, [], ap, cond, false, refl, sym, true}
use Rattle.std.specs.Cmp.{IsTotalOrder}
use Rattle.std.specs.FinMap.{FinMap, IsAntisymmetric, entries, entries_sorted, find, get, get-entries, is_sorted}
use Rattle.std.specs.FinMap.Entries.{below_all, by_order, put}
use Rattle.std.specs.Ordering.{is_eq, is_lt}
use Rattle.std.specs.declared.cmp.Ordering.{Ordering}

-- the first of two that hold
pub first_part : (a b : Bool) → T (a && b) → T a
first_part true b h = tt
first_part false b h = h

-- the second
pub second_part : (a b : Bool) → T (a && b) → T b
second_part true b h = h
second_part false b h = absurd h

-- what the test of an order says
pub is_less : (r : Ordering) → T (is_lt r) → r ≡ Less
is_less Less h = refl
is_less Equal h = absurd h
is_less Greater h = absurd h

-- a key below all others is none of them
pub not_below : {K X : Type 0} (R : K → K → Ordering) (k : K) (es : List (K × X)) → T (below_all R k es) → find R k es ≡ None
not_below R k [] h = refl
not_below R k (x ∷ es) h =
    ap (λ r. cond (is_eq r) (Some x.1) (find R k es)) (is_less (R k x.0) (first_part (is_lt (R k x.0)) (below_all R k es) h))
    ∙ not_below R k es (second_part (is_lt (R k x.0)) (below_all R k es) h)

pub record Around {K X : Type 0} (R : K → K → Ordering) (es : List (K × X)) (k : K) (x : X) : Type 0 where
  pub front : List (K × X)
  pub back : List (K × X)
  pub was : es ≡ front ++ (k, x) ∷ back
  pub now : (y : X) → put R k y es ≡ front ++ (k, y) ∷ back

module _ {K X : Type 0} {R : K → K → Ordering} (o : IsTotalOrder R) (same : IsAntisymmetric R) where
  -- nothing is found below all
  none_below : (k e : K) (es : List (K × X)) → R k e ≡ Less → T (below_all R e es) → find R k es ≡ None
  none_below k e [] l h = refl
  none_below k e (x ∷ es) l h =
      let below : R k x.0 ≡ Less = o.trans k e x.0 l (is_less (R e x.0) (first_part (is_lt (R e x.0)) (below_all R e es) h)) in
      ap (λ r. cond (is_eq r) (Some x.1) (find R k es)) below ∙ none_below k e es l (second_part (is_lt (R e x.0)) (below_all R e es) h)

  -- the entries around a key, in a list
  around_list : (es : List (K × X)) (k : K) (x : X) → T (is_sorted R es) → find R k es ≡ Some x → Around R es k x
  around_list [] k x s f = absurd cc
  around_list (e ∷ es) k x s f = by (around_list es k x) (R k e.0) refl
    where
      by : (T (is_sorted R es) → find R k es ≡ Some x → Around R es k x) → (r : Ordering) → R k e.0 ≡ r → Around R (e ∷ es) k x
      by again Less is = absurd (let n : find R k es ≡ None = none_below k e.0 es is (first_part (below_all R e.0 es) (is_sorted R es) s) in let g : find R k es ≡ Some x = ap (λ r. cond (is_eq r) (Some e.1) (find R k es)) (sym is) ∙ f in cc)
      by again Equal is =
          let k_is : k ≡ e.0 = same k e.0 is in
          let x_is : Some e.1 ≡ Some x = ap (λ r. cond (is_eq r) (Some e.1) (find R k es)) (sym is) ∙ f in
          let v_is : e.1 ≡ x = cc in
          record { front = []; back = es; was = λ i. (sym k_is i, v_is i) ∷ es; now = λ y. ap (λ r. by_order r ((k, y) ∷ e ∷ es) ((e.0, y) ∷ es) (e ∷ put R k y es)) is ∙ (λ i. (sym k_is i, y) ∷ es) }
      by again Greater is =
          let r = again (second_part (below_all R e.0 es) (is_sorted R es) s) (ap (λ r. cond (is_eq r) (Some e.1) (find R k es)) (sym is) ∙ f) in
          record { front = e ∷ r.front; back = r.back; was = ap (λ q. e ∷ q) r.was; now = λ y. ap (λ r. by_order r ((k, y) ∷ e ∷ es) ((e.0, y) ∷ es) (e ∷ put R k y es)) is ∙ ap (λ q. e ∷ q) (r.now y) }

  -- and in a map
  pub around : (m : FinMap R X) (k : K) (x : X) → get m k ≡ Some x → Around R (entries m) k x
  around m k x is = around_list (entries m) k x (entries_sorted m) (sym (get-entries m k) ∙ is)
