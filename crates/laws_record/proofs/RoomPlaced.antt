-- The room that is found and the slots with an item in it are of one search.
use Rattle.std.proofs.Common.{◌++◌, ◌+◌, ◌-◌, ◌∙◌, ◌∷◌, ◌≡◌, Bool, List, None, Option, Some, [], ap, arith, cond, false, length, nat_le, refl, subst, suc, sym, true, ℕ}
use Rattle.std.specs.Option.{option_map, option_or}
use Rattle.std.specs.Prelude.{All}
use Rattle.std.proofs.lemmas.List.Elements.{All-cons, All-nil}
use Rattle.pack_laws.specs.pack_model.specs.operations.Rooms.{Room, find_room, in_run, left_over, most_free, placed, room_from, room_here, run}
use Rattle.pack_laws.specs.pack_model.specs.reading.Slots.{Item, all_words, item_words}
use Rattle.pack_laws.specs.pack_model.specs.reading.Slots.Item.{entry, space}
use Rattle.laws_record.specs.SlotLaws.{FoundIsPlaced, IsPlacedIn, IsSpace}

-- ---- a run
-- the free slots of a run, and what follows them
pub record IsRun (is : List Item) (q : ℕ × List Item) : Type 0 where
  pub free : List Item
  pub are : is ≡ free ++ q.1
  pub are_free : All IsSpace free
  pub words : q.0 ≡ all_words free

pub run_is : (n : ℕ) (is : List Item) (q : ℕ × List Item) → run n is ≡ Some q → IsRun is q
run_is n [] q e = absurd cc
run_is n (entry f name ∷ is) q e = absurd cc
run_is n (space k ∷ is) q e = by (nat_le n k) (run (n - k) is) refl e (run_is (n - k) is)
  where
    by : (t : Bool) (s : Option (ℕ × List Item)) → run (n - k) is ≡ s → cond t (Some (k, is)) (option_map (λ r. (k + r.0, r.1)) s) ≡ Some q → ((q : ℕ × List Item) → run (n - k) is ≡ Some q → IsRun is q) → IsRun (space k ∷ is) q
    by true s is_s e again =
        let same : ◌≡◌ {A = ℕ × List Item} (k, is) q = cc in
        let words : k ≡ q.0 = ap (λ x. x.0) same in
        let rest : is ≡ q.1 = ap (λ x. x.1) same in
        record { free = space k ∷ []; are = ap (λ l. space k ∷ l) rest; are_free = All-cons IsSpace (space k) [] tt (All-nil IsSpace); words = omega arith }
    by false None is_s e again = absurd cc
    by false (Some s) is_s e again =
        let same : ◌≡◌ {A = ℕ × List Item} (k + s.0, s.1) q = cc in
        let words : k + s.0 ≡ q.0 = ap (λ x. x.0) same in
        let rest : s.1 ≡ q.1 = ap (λ x. x.1) same in
        let r = again s is_s in
        let more = r.words in
        record { free = space k ∷ r.free; are = ap (λ l. space k ∷ l) (r.are ∙ ap (λ l. r.free ++ l) rest); are_free = All-cons IsSpace (space k) r.free tt r.are_free; words = omega arith }

-- ---- the search from a slot on
-- the same where the slots begin with one of this number and at this word
record IsPlacedFrom (first place : ℕ) (r : Room) (i : Item) (is js : List Item) : Type 0 where
  before : List Item
  free : List Item
  behind : List Item
  slots_are : is ≡ before ++ (free ++ behind)
  are_free : All IsSpace free
  first_is : r.first ≡ first + length before
  place_is : r.place ≡ place + all_words before
  total : r.total ≡ all_words free
  then_are : js ≡ before ++ i ∷ left_over (r.total - item_words i) behind

-- both find nothing, or both the same
abbrev Agree : ℕ → ℕ → Item → List Item → Option Room → Option (List Item) → Type 0
Agree first place i is None None = Unit {0}
Agree first place i is None (Some js) = ⊥
Agree first place i is (Some r) None = ⊥
Agree first place i is (Some r) (Some js) = IsPlacedFrom first place r i is js

-- one slot more before them
agree_later : (first place : ℕ) (i j : Item) (is : List Item) (room : Option Room) (then : Option (List Item)) → Agree (suc first) (place + item_words j) i is room then → Agree first place i (j ∷ is) room (option_map (λ ks. j ∷ ks) then)
agree_later first place i j is None None a = tt
agree_later first place i j is None (Some js) a = absurd a
agree_later first place i j is (Some r) None a = absurd a
agree_later first place i j is (Some r) (Some js) a =
    let f = a.first_is in
    let p = a.place_is in
    record {
      before = j ∷ a.before;
      free = a.free;
      behind = a.behind;
      slots_are = ap (λ l. j ∷ l) a.slots_are;
      are_free = a.are_free;
      first_is = omega arith;
      place_is = omega arith;
      total = a.total;
      then_are = ap (λ l. j ∷ l) a.then_are;
    }

agree : (i : Item) (first place : ℕ) (is : List Item) → Agree first place i is (room_from (item_words i) first place is) (placed i is)
unfolding placed
agree i first place [] = tt
agree i first place (j ∷ is) = by (run (item_words i) (j ∷ is)) refl (agree_later first place i j is (room_from (item_words i) (suc first) (place + item_words j) is) (placed i is) (agree i (suc first) (place + item_words j) is))
  where
    fits : (t : Bool) (q : ℕ × List Item) → run (item_words i) (j ∷ is) ≡ Some q → Agree first place i (j ∷ is) (room_from (item_words i) (suc first) (place + item_words j) is) (option_map (λ ks. j ∷ ks) (placed i is))
        → Agree first place i (j ∷ is) (option_or (cond t (Some (record { first = first; place = place; total = q.0 })) None) (room_from (item_words i) (suc first) (place + item_words j) is)) (option_or (cond t (Some (i ∷ left_over (q.0 - item_words i) q.1)) None) (option_map (λ ks. j ∷ ks) (placed i is)))
    fits false q e a = a
    fits true q e a =
        let r = run_is (item_words i) (j ∷ is) q e in
        record { before = []; free = r.free; behind = q.1; slots_are = r.are; are_free = r.are_free; first_is = omega arith; place_is = omega arith; total = r.words; then_are = refl }

    by : (q : Option (ℕ × List Item)) → run (item_words i) (j ∷ is) ≡ q → Agree first place i (j ∷ is) (room_from (item_words i) (suc first) (place + item_words j) is) (option_map (λ ks. j ∷ ks) (placed i is))
        → Agree first place i (j ∷ is) (option_or (room_here first place (run (item_words i) (j ∷ is))) (room_from (item_words i) (suc first) (place + item_words j) is)) (option_or (in_run i (run (item_words i) (j ∷ is))) (option_map (λ ks. j ∷ ks) (placed i is)))
    by None e a = subst (λ s. Agree first place i (j ∷ is) (option_or (room_here first place s) (room_from (item_words i) (suc first) (place + item_words j) is)) (option_or (in_run i s) (option_map (λ ks. j ∷ ks) (placed i is)))) (sym e) a
    by (Some q) e a = subst (λ s. Agree first place i (j ∷ is) (option_or (room_here first place s) (room_from (item_words i) (suc first) (place + item_words j) is)) (option_or (in_run i s) (option_map (λ ks. j ∷ ks) (placed i is)))) (sym e) (fits (nat_le q.0 most_free) q e a)

-- ---- the law
none_both : (i : Item) (is : List Item) (room : Option Room) (then : Option (List Item)) → Agree 0 0 i is room then → (room ≡ None → then ≡ None) × (then ≡ None → room ≡ None)
none_both i is None None a = (λ e. refl, λ e. refl)
none_both i is None (Some js) a = absurd a
none_both i is (Some r) None a = absurd a
none_both i is (Some r) (Some js) a = (λ e. absurd cc, λ e. absurd cc)

from_first : (i : Item) (is js : List Item) (r : Room) → IsPlacedFrom 0 0 r i is js → IsPlacedIn r i is js
from_first i is js r a =
    let f = a.first_is in
    let p = a.place_is in
    record { before = a.before; free = a.free; behind = a.behind; old_are = a.slots_are; are_free = a.are_free; first = omega arith; place = omega arith; total = a.total; new_are = a.then_are }

pub found_is_placed : FoundIsPlaced
found_is_placed = λ i is.
    let a = agree i 0 0 is in
    record {
      neither = none_both i is (find_room (item_words i) is) (placed i is) a;
      both = λ r js room then. from_first i is js r (subst (λ y. Agree 0 0 i is (Some r) y) then (subst (λ x. Agree 0 0 i is x (placed i is)) room a));
    }
