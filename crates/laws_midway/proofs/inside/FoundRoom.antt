-- A room that was found stays, and one that comes is in the row at the end.
use Rattle.std.proofs.Common.{Bool, List, None, Option, Some, [], ap, arith, cond, false, inl, inr, leb-false, length, refl, suc, sym, true, ℕ, ◌++◌, ◌+◌, ◌-◌, ◌<◌, ◌∙◌, ◌∷◌, ◌≡◌, ◌≤◌, ◌⊎◌}
use Rattle.std.proofs.lemmas.Bool.{cond-false, lt-leb}
use Rattle.std.specs.Option.{option_map, option_or}
use Rattle.std.specs.Prelude.{nat_le}
use Rattle.laws_hint.specs.pack_model.specs.operations.Rooms.{Room, most_free, room_from, room_here, run}
use Rattle.laws_hint.specs.pack_model.specs.reading.Slots.Item.{entry, space}
use Rattle.laws_hint.specs.pack_model.specs.reading.Slots.{Item, all_words, item_words}
use Rattle.laws_midway.specs.RoomLaws.{EndsWithEntry, FoundRoomStays, RoomGoesOn}

-- ---- a run by its words
abbrev totals : Option (ℕ × List Item) → Option ℕ
totals None = None
totals (Some r) = Some r.0

abbrev total_here : ℕ → ℕ → Option ℕ → Option Room
total_here first place None = None
total_here first place (Some t) = cond (nat_le t most_free) (Some (record { first = first; place = place; total = t })) None

-- the room is by its words alone
here_by : (first place : ℕ) (r : Option (ℕ × List Item)) → room_here first place r ≡ total_here first place (totals r)
here_by first place None = refl
here_by first place (Some r) = refl

more_words : (k : ℕ) (r : Option (ℕ × List Item)) → totals (option_map (λ r. (k + r.0, r.1)) r) ≡ option_map (λ t. k + t) (totals r)
more_words k None = refl
more_words k (Some r) = refl

chosen : (b : Bool) (k : ℕ) (is : List Item) (r : Option (ℕ × List Item)) → totals (cond b (Some (k, is)) r) ≡ cond b (Some k) (totals r)
chosen true k is r = refl
chosen false k is r = refl

-- one slot of a run
run_by : (n k : ℕ) (is : List Item) → totals (run n (space k ∷ is)) ≡ cond (nat_le n k) (Some k) (option_map (λ t. k + t) (totals (run (n - k) is)))
run_by n k is = chosen (nat_le n k) k is (option_map (λ r. (k + r.0, r.1)) (run (n - k) is)) ∙ ap (cond (nat_le n k) (Some k)) (more_words k (run (n - k) is))

-- ---- slots before an entry
-- what follows an entry is in no run that begins before it
run_alike : (n : ℕ) (i : Item) (bs x y : List Item) → EndsWithEntry i bs → totals (run n (i ∷ (bs ++ x))) ≡ totals (run n (i ∷ (bs ++ y)))
run_alike n (entry f name) bs x y h = refl
run_alike n (space k) [] x y h = absurd h
run_alike n (space k) (j ∷ bs) x y h =
    run_by n k (j ∷ (bs ++ x)) ∙ ap (λ t. cond (nat_le n k) (Some k) (option_map (λ t. k + t) t)) (run_alike (n - k) j bs x y h) ∙ sym (run_by n k (j ∷ (bs ++ y)))

none_both : {X : Type 0} (a b : Option X) → option_or a b ≡ None → (a ≡ None) × (b ≡ None)
none_both None b e = (refl, e)
none_both (Some x) b e = cc

-- a start that fails fails whatever follows the entry
fails_still : (n first place : ℕ) (i : Item) (bs x y : List Item) → EndsWithEntry i bs → room_here first place (run n (i ∷ (bs ++ x))) ≡ None → room_here first place (run n (i ∷ (bs ++ y))) ≡ None
fails_still n first place i bs x y h none =
    here_by first place (run n (i ∷ (bs ++ y))) ∙ ap (total_here first place) (run_alike n i bs y x h) ∙ sym (here_by first place (run n (i ∷ (bs ++ x)))) ∙ none

later_end : (i j : Item) (bs : List Item) → EndsWithEntry i (j ∷ bs) → EndsWithEntry j bs
later_end (space n) j bs h = h
later_end (entry f name) j bs h = h

-- past them
past : (n first place : ℕ) (i : Item) (bs x y : List Item) → EndsWithEntry i bs → room_from n first place (i ∷ (bs ++ x)) ≡ None → room_from n first place (i ∷ (bs ++ y)) ≡ room_from n (suc first + length bs) (place + item_words i + all_words bs) y
past n first place i [] x y h none =
    let both = none_both (room_here first place (run n (i ∷ x))) (room_from n (suc first) (place + item_words i) x) none in
    let a : suc first ≡ suc first + 0 = omega arith in
    let b : place + item_words i ≡ place + item_words i + 0 = omega arith in
    ap (λ r. option_or r (room_from n (suc first) (place + item_words i) y)) (fails_still n first place i [] x y h both.0) ∙ (λ z. room_from n (a z) (b z) y)
past n first place i (j ∷ bs) x y h none =
    let both = none_both (room_here first place (run n (i ∷ (j ∷ bs ++ x)))) (room_from n (suc first) (place + item_words i) (j ∷ bs ++ x)) none in
    let a : suc (suc first) + length bs ≡ suc first + suc (length bs) = omega arith in
    let b : place + item_words i + item_words j + all_words bs ≡ place + item_words i + (item_words j + all_words bs) = omega arith in
    ap (λ r. option_or r (room_from n (suc first) (place + item_words i) (j ∷ bs ++ y))) (fails_still n first place i (j ∷ bs) x y h both.0)
    ∙ past n (suc first) (place + item_words i) j bs x y (later_end i j bs h) both.1 ∙ (λ z. room_from n (a z) (b z) y)

pub room_goes_on : RoomGoesOn
room_goes_on n [] row more h none = refl
room_goes_on n (i ∷ bs) row more h none =
    let a : suc 0 + length bs ≡ suc (length bs) = omega arith in
    let b : 0 + item_words i + all_words bs ≡ item_words i + all_words bs = omega arith in
    past n 0 0 i bs row (row ++ more) h none ∙ (λ z. room_from n (a z) (b z) (row ++ more))

-- ---- a room that was found
-- so few free slots that no run of so many words is in them
abbrev IsFew : ℕ → List Item → Type 0
IsFew n [] = 0 < n
IsFew n (space k ∷ is) = (k < n) × IsFew (n - k) is
IsFew n (entry f name ∷ is) = ⊥

-- no run where there is none among more slots, or there are few
none_or_few : (n : ℕ) (is more : List Item) → 1 ≤ n → run n is ≡ None → (run n (is ++ more) ≡ None) ⊎ IsFew n is
none_or_few n [] more some e = inr some
none_or_few n (entry f name ∷ is) more some e = inl refl
none_or_few n (space k ∷ is) more some e = by (nat_le n k) refl e (λ l. none_or_few (n - k) is more l)
  where
    unmapped : (r : Option (ℕ × List Item)) → option_map {U = ℕ × List Item} (λ r. (k + r.0, r.1)) r ≡ None → r ≡ None
    unmapped None e = refl
    unmapped (Some r) e = absurd cc

    by : (b : Bool) → nat_le n k ≡ b → cond {A = Option (ℕ × List Item)} b (Some (k, is)) (option_map (λ r. (k + r.0, r.1)) (run (n - k) is)) ≡ None → (1 ≤ n - k → run (n - k) is ≡ None → (run (n - k) (is ++ more) ≡ None) ⊎ IsFew (n - k) is) → (run n (space k ∷ (is ++ more)) ≡ None) ⊎ IsFew n (space k ∷ is)
    by true l e rest = absurd cc
    by false l e rest =
        let less = leb-false n k l in
        elim (rest (omega arith) (unmapped (run (n - k) is) e)) [
          | inl none ↦ inl (cond-false (nat_le n k) (Some (k, is ++ more)) (option_map (λ r. (k + r.0, r.1)) (run (n - k) (is ++ more))) l ∙ ap (option_map (λ r. (k + r.0, r.1))) none)
          | inr few ↦ inr (omega arith, few)
        ]

fewer : (m n : ℕ) (is : List Item) → m ≤ n → IsFew m is → IsFew n is
fewer m n [] l h = omega arith
fewer m n (space k ∷ is) l h = let a = h.0 in (omega arith, fewer (m - k) (n - k) is (omega arith) h.1)
fewer m n (entry f name ∷ is) l h = h

few_none : (n : ℕ) (is : List Item) → IsFew n is → run n is ≡ None
few_none n [] h = refl
few_none n (space k ∷ is) h = cond-false (nat_le n k) (Some (k, is)) (option_map (λ r. (k + r.0, r.1)) (run (n - k) is)) (lt-leb n k h.0) ∙ ap (option_map (λ r. (k + r.0, r.1))) (few_none (n - k) is h.1)
few_none n (entry f name ∷ is) h = absurd h

-- there is no room in few slots
no_room : (n first place : ℕ) (is : List Item) → IsFew n is → room_from n first place is ≡ None
no_room n first place [] h = refl
no_room n first place (space k ∷ is) h =
    ap (λ r. option_or (room_here first place r) (room_from n (suc first) (place + k) is)) (few_none n (space k ∷ is) h)
    ∙ no_room n (suc first) (place + k) is (fewer (n - k) n is (omega arith) h.1)
no_room n first place (entry f name ∷ is) h = absurd h

-- a run stays
run_stays : (n : ℕ) (is more : List Item) (q : ℕ × List Item) → run n is ≡ Some q → totals (run n (is ++ more)) ≡ Some q.0
run_stays n [] more q e = absurd cc
run_stays n (entry f name ∷ is) more q e = absurd cc
run_stays n (space k ∷ is) more q e = run_by n k (is ++ more) ∙ by (nat_le n k) (run (n - k) is) refl e (λ r. run_stays (n - k) is more r)
  where
    by : (b : Bool) (r : Option (ℕ × List Item)) → run (n - k) is ≡ r → cond {A = Option (ℕ × List Item)} b (Some (k, is)) (option_map (λ r. (k + r.0, r.1)) r) ≡ Some q → ((r : ℕ × List Item) → run (n - k) is ≡ Some r → totals (run (n - k) (is ++ more)) ≡ Some r.0)
        → cond b (Some k) (option_map (λ t. k + t) (totals (run (n - k) (is ++ more)))) ≡ Some q.0
    by true r is_r e rest = let same : ◌≡◌ {A = ℕ × List Item} (k, is) q = cc in ap (λ (x : ℕ × List Item). Some x.0) same
    by false None is_r e rest = absurd cc
    by false (Some r) is_r e rest =
        let same : ◌≡◌ {A = ℕ × List Item} (k + r.0, r.1) q = cc in
        ap (option_map (λ t. k + t)) (rest r is_r) ∙ ap (λ (x : ℕ × List Item). Some x.0) same

stays : (n first place : ℕ) (is more : List Item) (r : Room) → room_from n first place is ≡ Some r → room_from n first place (is ++ more) ≡ Some r
stays n first place [] more r e = absurd cc
stays n first place (i ∷ is) more r e = by (run n (i ∷ is)) refl e (λ h. stays n (suc first) (place + item_words i) is more r h)
  where
    -- no run begins here
    none : (i : Item) → run n (i ∷ is) ≡ None → (k : ℕ) → room_from n (suc first) k is ≡ Some r → run n (i ∷ (is ++ more)) ≡ None
    none (entry f name) e k there = refl
    none (space w) e k there = elim (none_or_few n (space w ∷ is) more (some (nat_le n w) refl e) e) [
      | inl still ↦ still
      | inr few ↦ absurd (let clash = sym (no_room n (suc first) k is (fewer (n - w) n is (omega arith) few.1)) ∙ there in cc)
    ]
      where
        some : (b : Bool) → nat_le n w ≡ b → cond {A = Option (ℕ × List Item)} b (Some (w, is)) (option_map (λ r. (w + r.0, r.1)) (run (n - w) is)) ≡ None → 1 ≤ n
        some true l e = absurd cc
        some false l e = let less = leb-false n w l in omega arith

    choose : (b : Bool) (t : ℕ) → option_or (cond b (Some (record { first = first; place = place; total = t })) None) (room_from n (suc first) (place + item_words i) is) ≡ Some r
        → (room_from n (suc first) (place + item_words i) is ≡ Some r → room_from n (suc first) (place + item_words i) (is ++ more) ≡ Some r)
        → option_or (cond b (Some (record { first = first; place = place; total = t })) None) (room_from n (suc first) (place + item_words i) (is ++ more)) ≡ Some r
    choose true t e rest = e
    choose false t e rest = rest e

    by : (q : Option (ℕ × List Item)) → run n (i ∷ is) ≡ q → option_or (room_here first place q) (room_from n (suc first) (place + item_words i) is) ≡ Some r
        → (room_from n (suc first) (place + item_words i) is ≡ Some r → room_from n (suc first) (place + item_words i) (is ++ more) ≡ Some r) → room_from n first place (i ∷ (is ++ more)) ≡ Some r
    by None is_q e rest = ap (λ q. option_or (room_here first place q) (room_from n (suc first) (place + item_words i) (is ++ more))) (none i is_q (place + item_words i) e) ∙ rest e
    by (Some q) is_q e rest =
        ap (λ x. option_or x (room_from n (suc first) (place + item_words i) (is ++ more))) (here_by first place (run n (i ∷ (is ++ more))) ∙ ap (total_here first place) (run_stays n (i ∷ is) more q is_q))
        ∙ choose (nat_le q.0 most_free) q.0 e rest

pub found_room_stays : FoundRoomStays
found_room_stays n is more r e = stays n 0 0 is more r e
