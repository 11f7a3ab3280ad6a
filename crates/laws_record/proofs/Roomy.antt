-- The room that is found for an entry, and where it is placed.
use Rattle.std.proofs.Common.{◌++◌, ◌+◌, ◌-◌, ◌∙◌, ◌∷◌, ◌≡◌, ◌≤◌, Bool, List, None, Option, Some, [], ap, arith, cond, false, leb-false, leb-true, length, nat_le, refl, suc, sym, true, ℕ}
use Rattle.std.specs.Option.{option_map, option_or}
use Rattle.pack_laws.specs.pack_model.specs.operations.Rooms.{Room, in_run, left_over, most_free, placed, room_from, room_here, run}
use Rattle.pack_laws.specs.pack_model.specs.reading.Slots.{Item, item_words}
use Rattle.pack_laws.specs.pack_model.specs.reading.Slots.Item.{entry, space}

-- a run has at least the words that are asked for
pub run_enough : (n : ℕ) (is : List Item) (r : ℕ × List Item) → run n is ≡ Some r → n ≤ r.0
run_enough n [] r e = absurd cc
run_enough n (entry f name ∷ is) r e = absurd cc
run_enough n (space k ∷ is) r e = by (nat_le n k) refl (run (n - k) is) refl e (run_enough (n - k) is)
  where
    by : (t : Bool) → nat_le n k ≡ t → (q : Option (ℕ × List Item)) → run (n - k) is ≡ q → cond t (Some (k, is)) (option_map (λ r. (k + r.0, r.1)) q) ≡ Some r → ((r : ℕ × List Item) → run (n - k) is ≡ Some r → n - k ≤ r.0) → n ≤ r.0
    by true t q is_q e again = let same : ◌≡◌ {A = ℕ × List Item} (k, is) r = cc in let first : k ≡ r.0 = ap (λ x. x.0) same in let l = leb-true n k t in omega arith
    by false t None is_q e again = absurd cc
    by false t (Some q) is_q e again = let same : ◌≡◌ {A = ℕ × List Item} (k + q.0, q.1) r = cc in let first : k + q.0 ≡ r.0 = ap (λ x. x.0) same in let l = again q is_q in omega arith

-- a run with the words of the first slot is that slot
pub run_one : (n k : ℕ) (is : List Item) (r : ℕ × List Item) → run n (space k ∷ is) ≡ Some r → r.0 ≡ k → r.1 ≡ is
run_one n k is r e all = by (nat_le n k) refl (run (n - k) is) refl e
  where
    by : (t : Bool) → nat_le n k ≡ t → (q : Option (ℕ × List Item)) → run (n - k) is ≡ q → cond t (Some (k, is)) (option_map (λ r. (k + r.0, r.1)) q) ≡ Some r → r.1 ≡ is
    by true t q is_q e = let same : ◌≡◌ {A = ℕ × List Item} (k, is) r = cc in ap (λ x. x.1) (sym same)
    by false t None is_q e = absurd cc
    by false t (Some q) is_q e =
        let same : ◌≡◌ {A = ℕ × List Item} (k + q.0, q.1) r = cc in
        let first : k + q.0 ≡ r.0 = ap (λ x. x.0) same in
        let l = run_enough (n - k) is q is_q in
        let m = leb-false n k t in
        absurd (omega arith)

-- a room begins with the slot that is looked at, or later
room_later : (n first place : ℕ) (is : List Item) (r : Room) → room_from n first place is ≡ Some r → first ≤ r.first
room_later n first place [] r e = absurd cc
room_later n first place (i ∷ is) r e = by (run n (i ∷ is)) e (room_later n (suc first) (place + item_words i) is r)
  where
    tried : (t : Bool) (q : ℕ × List Item) → option_or (cond t (Some (record { first = first; place = place; total = q.0 })) None) (room_from n (suc first) (place + item_words i) is) ≡ Some r → (room_from n (suc first) (place + item_words i) is ≡ Some r → suc first ≤ r.first) → first ≤ r.first
    tried true q e again = let same : ◌≡◌ {A = Room} (record { first = first; place = place; total = q.0 }) r = cc in let f : first ≡ r.first = ap (λ x. x.first) same in omega arith
    tried false q e again = let l = again e in omega arith

    by : (q : Option (ℕ × List Item)) → option_or (room_here first place q) (room_from n (suc first) (place + item_words i) is) ≡ Some r → (room_from n (suc first) (place + item_words i) is ≡ Some r → suc first ≤ r.first) → first ≤ r.first
    by None e again = let l = again e in omega arith
    by (Some q) e again = tried (nat_le q.0 most_free) q e again

-- an item goes where its room is, if this is one slot
pub placed_there : (i : Item) (first place : ℕ) (a b : List Item) (total : ℕ) (r : Room) → room_from (item_words i) first place (a ++ space total ∷ b) ≡ Some r → r.first ≡ first + length a → r.total ≡ total → placed i (a ++ space total ∷ b) ≡ Some (a ++ i ∷ left_over (total - item_words i) b)
unfolding placed
placed_there i first place [] b total r e at all = by (run (item_words i) (space total ∷ b)) refl e
  where
    later : room_from (item_words i) (suc first) (place + total) b ≡ Some r → ⊥
    later e = let l = room_later (item_words i) (suc first) (place + total) b r e in let z : first + 0 ≡ first = omega arith in omega arith

    fits : (t : Bool) (q : ℕ × List Item) → run (item_words i) (space total ∷ b) ≡ Some q → option_or (cond t (Some (record { first = first; place = place; total = q.0 })) None) (room_from (item_words i) (suc first) (place + total) b) ≡ Some r
        → option_or (cond t (Some (i ∷ left_over (q.0 - item_words i) q.1)) None) (option_map (λ ks. space total ∷ ks) (placed i b)) ≡ Some (i ∷ left_over (total - item_words i) b)
    fits true q is_q e =
        let same : ◌≡◌ {A = Room} (record { first = first; place = place; total = q.0 }) r = cc in
        let k : q.0 ≡ total = ap (λ x. x.total) same ∙ all in
        let rest : q.1 ≡ b = run_one (item_words i) total b q is_q k in
        λ j. Some (i ∷ left_over (k j - item_words i) (rest j))
    fits false q is_q e = absurd (later e)

    by : (q : Option (ℕ × List Item)) → run (item_words i) (space total ∷ b) ≡ q → option_or (room_here first place q) (room_from (item_words i) (suc first) (place + total) b) ≡ Some r
        → option_or (in_run i (run (item_words i) (space total ∷ b))) (option_map (λ ks. space total ∷ ks) (placed i b)) ≡ Some (i ∷ left_over (total - item_words i) b)
    by None is_q e = absurd (later e)
    by (Some q) is_q e = ap (λ s. option_or (in_run i s) (option_map (λ ks. space total ∷ ks) (placed i b))) is_q ∙ fits (nat_le q.0 most_free) q is_q e
placed_there i first place (j ∷ a) b total r e at all = by (run (item_words i) (j ∷ (a ++ space total ∷ b))) refl e
    (λ e. placed_there i (suc first) (place + item_words j) a b total r e (omega arith) all)
  where
    tried : (t : Bool) (q : ℕ × List Item) → option_or (cond t (Some (record { first = first; place = place; total = q.0 })) None) (room_from (item_words i) (suc first) (place + item_words j) (a ++ space total ∷ b)) ≡ Some r
        → (room_from (item_words i) (suc first) (place + item_words j) (a ++ space total ∷ b) ≡ Some r → placed i (a ++ space total ∷ b) ≡ Some (a ++ i ∷ left_over (total - item_words i) b))
        → option_or (cond t (Some (i ∷ left_over (q.0 - item_words i) q.1)) None) (option_map (λ ks. j ∷ ks) (placed i (a ++ space total ∷ b))) ≡ Some (j ∷ (a ++ i ∷ left_over (total - item_words i) b))
    tried true q e again = absurd (let same : ◌≡◌ {A = Room} (record { first = first; place = place; total = q.0 }) r = cc in let f : first ≡ r.first = ap (λ x. x.first) same in let z = at in omega arith)
    tried false q e again = ap (option_map (λ ks. j ∷ ks)) (again e)

    by : (q : Option (ℕ × List Item)) → run (item_words i) (j ∷ (a ++ space total ∷ b)) ≡ q → option_or (room_here first place q) (room_from (item_words i) (suc first) (place + item_words j) (a ++ space total ∷ b)) ≡ Some r
        → (room_from (item_words i) (suc first) (place + item_words j) (a ++ space total ∷ b) ≡ Some r → placed i (a ++ space total ∷ b) ≡ Some (a ++ i ∷ left_over (total - item_words i) b))
        → option_or (in_run i (run (item_words i) (j ∷ (a ++ space total ∷ b)))) (option_map (λ ks. j ∷ ks) (placed i (a ++ space total ∷ b))) ≡ Some (j ∷ (a ++ i ∷ left_over (total - item_words i) b))
    by None is_q e again = ap (λ s. option_or (in_run i s) (option_map (λ ks. j ∷ ks) (placed i (a ++ space total ∷ b)))) is_q ∙ ap (option_map (λ ks. j ∷ ks)) (again e)
    by (Some q) is_q e again = ap (λ s. option_or (in_run i s) (option_map (λ ks. j ∷ ks) (placed i (a ++ space total ∷ b)))) is_q ∙ tried (nat_le q.0 most_free) q e again
