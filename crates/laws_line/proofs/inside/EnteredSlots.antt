-- Slots with an item placed among them are slots.
use Rattle.std.proofs.Common.{◌+◌, ◌-◌, ◌∷◌, ◌≡◌, ◌≤◌, Bool, List, None, Option, Some, [], arith, cond, false, leb-true, nat_le, refl, subst, suc, true, zero, ℕ}
use Rattle.std.proofs.lemmas.List.Elements.{All-cons, All-head, All-tail}
use Rattle.std.specs.Option.{option_map, option_or}
use Rattle.std.specs.Prelude.{All}
use Rattle.laws_line.proofs.inside.Runs.{IsShort}
use Rattle.pack_model.specs.operations.Rooms.{in_run, left_over, placed, run}
use Rattle.pack_model.specs.reading.Slots.{Item, item_words}
use Rattle.pack_model.specs.reading.Slots.Item.{entry, space}

-- what is after a run are some of the slots
after_short : (n : ℕ) (is : List Item) (r : ℕ × List Item) → All IsShort is → run n is ≡ Some r → All IsShort r.1
after_short n [] r h e = absurd cc
after_short n (entry f name ∷ is) r h e = absurd cc
after_short n (space k ∷ is) r h e = by (nat_le n k) (run (n - k) is) refl e (λ q. after_short (n - k) is q (All-tail IsShort (space k) is h))
  where
    by : (t : Bool) (o : Option (ℕ × List Item)) → run (n - k) is ≡ o → cond t (Some (k, is)) (option_map (λ r. (k + r.0, r.1)) o) ≡ Some r → ((q : ℕ × List Item) → run (n - k) is ≡ Some q → All IsShort q.1) → All IsShort r.1
    by true o o_is e again = let same : ◌≡◌ {A = ℕ × List Item} (k, is) r = cc in subst (λ r. All IsShort r.1) same (All-tail IsShort (space k) is h)
    by false None o_is e again = absurd cc
    by false (Some q) o_is e again = let same : ◌≡◌ {A = ℕ × List Item} (k + q.0, q.1) r = cc in subst (λ r. All IsShort r.1) same (again q o_is)

-- words left over
left_short : (n : ℕ) (is : List Item) → n ≤ 1023 → All IsShort is → All IsShort (left_over n is)
left_short zero is l h = h
left_short (suc n) is l h = All-cons IsShort (space (suc n)) is l h

-- an item in a run
run_short : (i : Item) (is js : List Item) → IsShort i → All IsShort is → in_run i (run (item_words i) is) ≡ Some js → All IsShort js
run_short i is js short h e = by (run (item_words i) is) refl e
  where
    fits : (t : Bool) (r : ℕ × List Item) → run (item_words i) is ≡ Some r → nat_le r.0 1023 ≡ t → cond t (Some (i ∷ left_over (r.0 - item_words i) r.1)) None ≡ Some js → All IsShort js
    fits false r is_r t e = absurd cc
    fits true r is_r t e =
        let same : i ∷ left_over (r.0 - item_words i) r.1 ≡ js = cc in
        let l = leb-true r.0 1023 t in
        subst (All IsShort) same (All-cons IsShort i (left_over (r.0 - item_words i) r.1) short (left_short (r.0 - item_words i) r.1 (omega arith) (after_short (item_words i) is r h is_r)))

    by : (o : Option (ℕ × List Item)) → run (item_words i) is ≡ o → in_run i o ≡ Some js → All IsShort js
    by None o_is e = absurd cc
    by (Some r) o_is e = fits (nat_le r.0 1023) r o_is refl e

-- an item that is placed
pub placed_short : (i : Item) (is js : List Item) → IsShort i → All IsShort is → placed i is ≡ Some js → All IsShort js
unfolding placed
placed_short i [] js short h e = absurd cc
placed_short i (j ∷ is) js short h e = by (in_run i (run (item_words i) (j ∷ is))) refl (placed i is) refl e (λ ks. placed_short i is ks short (All-tail IsShort j is h))
  where
    by : (o : Option (List Item)) → in_run i (run (item_words i) (j ∷ is)) ≡ o → (p : Option (List Item)) → placed i is ≡ p → option_or o (option_map (λ ks. j ∷ ks) p) ≡ Some js → ((ks : List Item) → placed i is ≡ Some ks → All IsShort ks) → All IsShort js
    by (Some ks) o_is p p_is e again = let same : ks ≡ js = cc in subst (All IsShort) same (run_short i (j ∷ is) ks short h o_is)
    by None o_is None p_is e again = absurd cc
    by None o_is (Some ks) p_is e again = let same : j ∷ ks ≡ js = cc in subst (All IsShort) same (All-cons IsShort j ks (All-head IsShort j is h) (again ks p_is))
