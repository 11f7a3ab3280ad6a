-- A room is found where so many words are free in a row.
use Rattle.std.proofs.Common.{Bool, List, None, Option, Some, [], ap, arith, cond, false, inl, inr, leb-true, refl, suc, sym, true, ℕ, ◌++◌, ◌+◌, ◌-◌, ◌<◌, ◌∙◌, ◌∷◌, ◌≡◌, ◌≢◌, ◌≤◌}
use Rattle.std.proofs.lemmas.Bool.{cases_lt, cond-false, cond-true, le-leb, lt-leb}
use Rattle.std.proofs.lemmas.List.Elements.{All-head, All-tail}
use Rattle.std.specs.Option.{is_some, option_map, option_or}
use Rattle.std.specs.Prelude.{All, nat_le}
use Rattle.laws_hint.specs.laws_record.specs.SlotLaws.{IsSpace}
use Rattle.laws_hint.specs.pack_model.specs.operations.Rooms.{find_room, largest_run, most_free, room_from, room_here, run, words_free}
use Rattle.laws_hint.specs.pack_model.specs.reading.Slots.Item.{entry, space}
use Rattle.laws_hint.specs.pack_model.specs.reading.Slots.{Item, all_words, item_words}
use Rattle.laws_midway.specs.RoomLaws.{RoomIsFoundInARun, RowIsShort}

abbrev IsShort : Item → Type 0
IsShort i = item_words i ≤ most_free

-- ---- one or the other
or_first : {X : Type 0} (a b : Option X) → is_some a ≡ true → is_some (option_or a b) ≡ true
or_first None b e = absurd cc
or_first (Some x) b e = refl

or_second : {X : Type 0} (a b : Option X) → is_some b ≡ true → is_some (option_or a b) ≡ true
or_second None b e = e
or_second (Some x) b e = refl

-- ---- a run
run_here : (n k : ℕ) (is : List Item) → n ≤ k → run n (space k ∷ is) ≡ Some (k, is)
run_here n k is all = cond-true _ (Some (k, is)) _ (le-leb n k all)

run_on : (n k : ℕ) (is : List Item) (r : ℕ × List Item) → k < n → run (n - k) is ≡ Some r → run n (space k ∷ is) ≡ Some (k + r.0, r.1)
run_on n k is r more e = cond-false _ (Some (k, is)) _ (lt-leb n k more) ∙ ap (option_map (λ r. (k + r.0, r.1))) e

-- where so many words stand free a run has them, and no more than stand free
run_free : (n : ℕ) (is : List Item) → 1 ≤ n → n ≤ words_free is → (r : ℕ × List Item) × (run n is ≡ Some r) × (r.0 ≤ words_free is)
run_free n [] some many = absurd (omega arith)
run_free n (entry f name ∷ is) some many = absurd (omega arith)
run_free n (space k ∷ is) some many = elim (cases_lt k n) [
  | inr all ↦ ((k, is), run_here n k is all, omega arith)
  | inl more ↦
      let q = run_free (n - k) is (omega arith) (omega arith) in
      let l = q.2 in
      ((k + q.0.0, q.0.1), run_on n k is q.0 more q.1, omega arith)
]

-- a run's words stand free
free_run : (n : ℕ) (is : List Item) (q : ℕ × List Item) → run n is ≡ Some q → n ≤ words_free is
free_run n [] q e = absurd cc
free_run n (entry f name ∷ is) q e = absurd cc
free_run n (space k ∷ is) q e = by (nat_le n k) refl (run (n - k) is) refl e (λ r. free_run (n - k) is r)
  where
    by : (b : Bool) → nat_le n k ≡ b → (r : Option (ℕ × List Item)) → run (n - k) is ≡ r → cond {A = Option (ℕ × List Item)} b (Some (k, is)) (option_map (λ r. (k + r.0, r.1)) r) ≡ Some q → ((r : ℕ × List Item) → run (n - k) is ≡ Some r → n - k ≤ words_free is) → n ≤ k + words_free is
    by true l r is_r e rest = let all = leb-true n k l in omega arith
    by false l None is_r e rest = absurd cc
    by false l (Some r) is_r e rest = let more = rest r is_r in omega arith

-- a run that isn't too long is a room
is_room : (first place : ℕ) (o : Option (ℕ × List Item)) (r : ℕ × List Item) → o ≡ Some r → r.0 ≤ 1023 → is_some (room_here first place o) ≡ true
is_room first place o r e l = ap (λ o. is_some (room_here first place o)) e ∙ ap is_some (cond-true _ (Some (record { first = first; place = place; total = r.0 })) None (le-leb r.0 1023 l))

-- ---- room
module _ (n : ℕ) (some : 1 ≤ n) (few : n ≤ 512) where
  -- so many words are free at the front: where the slots that have them are too long together, those after the first are enough
  room_free : (first place : ℕ) (is : List Item) → All IsShort is → n ≤ words_free is → is_some (room_from n first place is) ≡ true
  room_free first place [] short many = absurd (omega arith)
  room_free first place (entry f name ∷ is) short many = absurd (omega arith)
  room_free first place (space k ∷ is) short many =
      let small : k ≤ 1023 = All-head IsShort (space k) is short in
      elim (cases_lt k n) [
        | inr all ↦ or_first _ _ (is_room first place (run n (space k ∷ is)) (k, is) (run_here n k is all) small)
        | inl more ↦
            let q = run_free (n - k) is (omega arith) (omega arith) in
            let l = q.2 in
            elim (cases_lt 1023 (k + q.0.0)) [
              | inr all ↦ or_first _ _ (is_room first place (run n (space k ∷ is)) (k + q.0.0, q.0.1) (run_on n k is q.0 more q.1) all)
              | inl long ↦ or_second _ _ (room_free (suc first) (place + k) is (All-tail IsShort (space k) is short) (omega arith))
            ]
      ]

  -- or somewhere
  room_somewhere : (first place : ℕ) (is : List Item) → All IsShort is → n ≤ largest_run is → is_some (room_from n first place is) ≡ true
  room_somewhere first place [] short many = absurd (omega arith)
  room_somewhere first place (i ∷ is) short many = elim (cases_lt (words_free (i ∷ is)) n) [
    | inr all ↦ room_free first place (i ∷ is) short all
    | inl more ↦ or_second _ _ (room_somewhere (suc first) (place + item_words i) is (All-tail IsShort i is short) (omega arith))
  ]

  -- and nowhere else
  nowhere : (first place : ℕ) (is : List Item) → largest_run is < n → room_from n first place is ≡ None
  nowhere first place [] none = refl
  nowhere first place (i ∷ is) none = ap (λ q. option_or (room_here first place q) (room_from n (suc first) (place + item_words i) is)) (no_run (run n (i ∷ is)) refl) ∙ nowhere (suc first) (place + item_words i) is (omega arith)
    where
      no_run : (q : Option (ℕ × List Item)) → run n (i ∷ is) ≡ q → run n (i ∷ is) ≡ None
      no_run None e = e
      no_run (Some q) e = absurd (let l = free_run n (i ∷ is) q e in omega arith)

  unless : (is : List Item) → find_room n is ≢ None → n ≤ largest_run is
  unless is found = elim (cases_lt (largest_run is) n) [ inl none ↦ absurd (found (nowhere 0 0 is none)) | inr all ↦ all ]

  found_there : (is : List Item) → All IsShort is → n ≤ largest_run is → find_room n is ≢ None
  found_there is short many none = let clash = sym (room_somewhere 0 0 is short many) ∙ ap is_some none in cc

pub room_is_found_in_a_run : RoomIsFoundInARun
room_is_found_in_a_run n is some few short = (unless n some few is, found_there n some few is short)

-- ---- the row at the end
row_words_free : (row : List Item) → All IsSpace row → words_free row ≡ all_words row
row_words_free [] h = refl
row_words_free (space k ∷ row) h = ap (λ w. k + w) (row_words_free row (All-tail IsSpace (space k) row h))
row_words_free (entry f name ∷ row) h = absurd (All-head IsSpace (entry f name) row h)

front_run : (row : List Item) → words_free row ≤ largest_run row
front_run [] = omega arith
front_run (i ∷ row) = omega arith

end_run : (before row : List Item) → largest_run row ≤ largest_run (before ++ row)
end_run [] row = omega arith
end_run (i ∷ before) row = let l = end_run before row in omega arith

pub row_is_short : RowIsShort
row_is_short n before row some few short free none = elim (cases_lt (all_words row) n) [
  | inl less ↦ less
  | inr all ↦
      let a = row_words_free row free in
      let b = front_run row in
      let c = end_run before row in
      absurd (found_there n some few (before ++ row) short (omega (arith, a)) none)
]
