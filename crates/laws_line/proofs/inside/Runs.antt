-- An entry has room where so many words are free in a row.
use Rattle.std.proofs.Common.{◌+◌, ◌-◌, ◌<◌, ◌∙◌, ◌∷◌, ◌≡◌, ◌≤◌, List, None, Option, Some, [], ap, arith, inl, inr, refl, true, ℕ}
use Rattle.std.proofs.lemmas.Bool.{cases_lt, cond-false, cond-true, le-leb, lt-leb}
use Rattle.std.proofs.lemmas.List.Elements.{All-head, All-tail}
use Rattle.std.specs.Option.{is_some, option_map, option_or}
use Rattle.std.specs.Prelude.{All}
use Rattle.pack_model.specs.operations.Rooms.{in_run, largest_run, left_over, most_free, placed, run, words_free}
use Rattle.pack_model.specs.reading.Slots.{Item, item_words}
use Rattle.pack_model.specs.reading.Slots.Item.{entry, space}
use Rattle.laws_room.specs.laws_record.proofs.Tidying.{some_map}

-- a slot that a free slot's length could have
abbrev pub IsShort : Item → Type 0
IsShort i = item_words i ≤ most_free

-- ---- one or the other
or_first : {X : Type 0} (a b : Option X) → is_some a ≡ true → is_some (option_or a b) ≡ true
or_first None b e = cc
or_first (Some x) b e = refl

or_second : {X : Type 0} (a b : Option X) → is_some b ≡ true → is_some (option_or a b) ≡ true
or_second None b e = e
or_second (Some x) b e = refl

-- ---- a run
-- one slot has the words
run_here : (n k : ℕ) (is : List Item) → n ≤ k → run n (space k ∷ is) ≡ Some (k, is)
run_here n k is all = cond-true _ (Some (k, is)) _ (le-leb n k all)

-- it takes more
run_on : (n k : ℕ) (is : List Item) (r : ℕ × List Item) → k < n → run (n - k) is ≡ Some r → run n (space k ∷ is) ≡ Some (k + r.0, r.1)
run_on n k is r more e = cond-false _ (Some (k, is)) _ (lt-leb n k more) ∙ ap (option_map (λ r. (k + r.0, r.1))) e

-- where so many words stand free a run has them, and no more than stand free
run_free : (n : ℕ) (is : List Item) → 1 ≤ n → n ≤ words_free is → (r : ℕ × List Item) × (run n is ≡ Some r) × (r.0 ≤ words_free is)
run_free n [] some many = absurd (omega arith)
run_free n (entry f name ∷ is) some many = absurd (omega arith)
run_free n (space k ∷ is) some many = elim (cases_lt k n) [
  | inr all ↦ ((k, is), run_here n k is all, omega arith)
  | inl more ↦
      let q = run_free (n - k) is (omega arith) (omega arith) in
      let l = q.2 in
      ((k + q.0.0, q.0.1), run_on n k is q.0 more q.1, omega arith)
]

-- a run that isn't too long takes an item
taken : (i : Item) (o : Option (ℕ × List Item)) (r : ℕ × List Item) → o ≡ Some r → r.0 ≤ 1023 → is_some (in_run i o) ≡ true
taken i o r e l = ap (λ o. is_some (in_run i o)) e ∙ ap is_some (cond-true _ (Some (i ∷ left_over (r.0 - item_words i) r.1)) None (le-leb r.0 1023 l))

-- ---- room
module _ (i : Item) (some : 1 ≤ item_words i) (few : item_words i ≤ 512) where
  -- so many words are free at the front: where the slots that have them are too long together, the last of them is enough
  placed_free : (is : List Item) → All IsShort is → item_words i ≤ words_free is → is_some (placed i is) ≡ true
  unfolding placed
  placed_free [] short many = absurd (omega arith)
  placed_free (entry f name ∷ is) short many = absurd (omega arith)
  placed_free (space k ∷ is) short many = elim (cases_lt k (item_words i)) [
    | inr all ↦ or_first _ _ (taken i (run (item_words i) (space k ∷ is)) (k, is) (run_here (item_words i) k is all) (All-head IsShort (space k) is short))
    | inl more ↦
        let q = run_free (item_words i - k) is (omega arith) (omega arith) in
        let l = q.2 in
        elim (cases_lt 1023 (k + q.0.0)) [
          | inr all ↦ or_first _ _ (taken i (run (item_words i) (space k ∷ is)) (k + q.0.0, q.0.1) (run_on (item_words i) k is q.0 more q.1) all)
          | inl long ↦ or_second _ _ (some_map (λ ks. space k ∷ ks) (placed i is) ∙ placed_free is (All-tail IsShort (space k) is short) (omega arith))
        ]
  ]

  -- so many words are free somewhere
  pub placed_somewhere : (is : List Item) → All IsShort is → item_words i ≤ largest_run is → is_some (placed i is) ≡ true
  unfolding placed
  placed_somewhere [] short many = absurd (omega arith)
  placed_somewhere (j ∷ is) short many = elim (cases_lt (words_free (j ∷ is)) (item_words i)) [
    | inr all ↦ placed_free (j ∷ is) short all
    | inl more ↦ or_second _ _ (some_map (λ ks. j ∷ ks) (placed i is) ∙ placed_somewhere is (All-tail IsShort j is short) (omega arith))
  ]
