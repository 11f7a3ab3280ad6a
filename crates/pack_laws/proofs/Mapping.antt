-- Maps from full names, by their look-ups and by their entries.
use Rattle.std.proofs.Common.{◌≡◌, true, false, cond, List, [], ◌∷◌, Option, Some, None, refl, sym, ap, subst, ◌∙◌}
use Rattle.std.specs.Prelude.{T, ◌&&◌}
use Rattle.std.specs.declared.cmp.Ordering.{Ordering}
use Rattle.std.specs.Ordering.{eq_by_cmp, is_lt}
use Rattle.std.specs.Option.{option_map}
use Rattle.std.specs.Cmp.{IsTotalOrder}
use Rattle.std.specs.FinMap.{FinMap, IsAntisymmetric, find, get, get-insert, get-from_entries, get-entries, entries, entries_sorted, from_entries, is_sorted}
use Rattle.std.specs.FinMap.Entries.{same_entries, below_all}
use Rattle.pack_model.specs.sessions.Maps.{map_entries, map_values, update, update_found}
use Rattle.pack_laws.proofs.Keys.{is_eq-Equal}

-- other values in order are in order
below-map_entries : {K X Y : Type 0} (R : K → K → Ordering) (g : K → X → Y) (k : K) (es : List (K × X)) → below_all R k (map_entries g es) ≡ below_all R k es
below-map_entries R g k [] = refl
below-map_entries R g k (e ∷ es) = ap (λ b. is_lt (R k e.0) && b) (below-map_entries R g k es)

-- and so are all entries
sorted-map_entries : {K X Y : Type 0} (R : K → K → Ordering) (g : K → X → Y) (es : List (K × X)) → is_sorted R (map_entries g es) ≡ is_sorted R es
sorted-map_entries R g [] = refl
sorted-map_entries R g (e ∷ es) = λ i. below-map_entries R g e.0 es i && sorted-map_entries R g es i

module _ {K X : Type 0} {R : K → K → Ordering} (o : IsTotalOrder R) (same : IsAntisymmetric R) where
  -- the map of entries in order has these entries
  pub entries-from_entries : (es : List (K × X)) → T (is_sorted R es) → entries (from_entries {R = R} es) ≡ es
  entries-from_entries es h = same_entries R o same _ es (entries_sorted (from_entries {R = R} es)) h (λ q. sym (get-entries (from_entries {R = R} es) q) ∙ get-from_entries o es q)

  -- a changed value
  pub get-update : (m : FinMap R X) (k : K) (g : X → X) (q : K) → get (update m k g) q ≡ cond (eq_by_cmp R q k) (option_map g (get m k)) (get m q)
  get-update m k g q = by (get m k) refl
    where
      by : (r : Option X) → get m k ≡ r → get (update_found m k g r) q ≡ cond (eq_by_cmp R q k) (option_map g r) (get m q)
      by (Some x) is = get-insert o m k (g x) q
      by None is = elim (eq_by_cmp R q k) as (λ b. eq_by_cmp R q k ≡ b → get m q ≡ cond b None (get m q)) [
        | true ↦ λ e. ap (get m) (same q k (is_eq-Equal (R q k) e)) ∙ is
        | false ↦ λ e. refl
      ] refl

module _ {K X Y : Type 0} {R : K → K → Ordering} (o : IsTotalOrder R) (same : IsAntisymmetric R) (g : K → X → Y) where
  -- the first entry of a key
  find-map_entries : (es : List (K × X)) (q : K) → find R q (map_entries g es) ≡ option_map (g q) (find R q es)
  find-map_entries [] q = refl
  find-map_entries (e ∷ es) q =
      elim (eq_by_cmp R q e.0) as (λ b. eq_by_cmp R q e.0 ≡ b → cond b (Some (g e.0 e.1)) (find R q (map_entries g es)) ≡ option_map (g q) (cond b (Some e.1) (find R q es))) [
        | true ↦ λ is. ap (λ k. Some (g k e.1)) (sym (same q e.0 (is_eq-Equal (R q e.0) is)))
        | false ↦ λ is. find-map_entries es q
      ] refl

  -- the other value of a key
  pub get-map_values : (m : FinMap R X) (q : K) → get (map_values {R = R} g m) q ≡ option_map (g q) (get m q)
  unfolding map_values
  get-map_values m q = get-from_entries o (map_entries g (entries m)) q ∙ find-map_entries (entries m) q ∙ ap (option_map (g q)) (sym (get-entries m q))

  -- the entries, each with its other value
  pub entries-map_values : (m : FinMap R X) → entries (map_values {R = R} g m) ≡ map_entries g (entries m)
  unfolding map_values
  entries-map_values m = entries-from_entries o same (map_entries g (entries m)) (subst T (sym (sorted-map_entries R g (entries m))) (entries_sorted m))
