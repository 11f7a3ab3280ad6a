-- The most free words in a row, slot by slot.
use Rattle.std.proofs.Common.{List, [], ap, arith, fold, inl, inr, max, refl, sym, ℕ, ◌++◌, ◌+◌, ◌∙◌, ◌∷◌, ◌≡◌, ◌⊎◌}
use Rattle.laws_hint.specs.alto_words.specs.declared.fid.Fid.{Fid}
use Rattle.laws_hint.specs.pack_model.specs.operations.Rooms.{largest_run, words_free}
use Rattle.laws_hint.specs.pack_model.specs.reading.Slots.Item.{entry, space}
use Rattle.laws_hint.specs.pack_model.specs.reading.Slots.{Item}
use Rattle.laws_midway.specs.RoomLaws.{MostWordsGoOn, row_words}

-- all of these are free, so that the row at the front is the row at the end
record AllFree (is : List Item) : Type 0 where
  front_space : (n : ℕ) → words_free (is ++ space n ∷ []) ≡ words_free is + n
  front_entry : (f : Fid) (name : List ℕ) → words_free (is ++ entry f name ∷ []) ≡ words_free is
  ends : (row : ℕ) → fold row_words row is ≡ row + words_free is

-- an entry is among them, so that the row at the end doesn't reach the front
record SomeEntry (is : List Item) : Type 0 where
  front : (i : Item) → words_free (is ++ i ∷ []) ≡ words_free is
  ends : (row : ℕ) → fold row_words row is ≡ fold row_words 0 is

either : (is : List Item) → AllFree is ⊎ SomeEntry is
either [] = inl (record { front_space = λ n. omega arith; front_entry = λ f name. refl; ends = λ row. omega arith })
either (entry f name ∷ is) = inr (record { front = λ i. refl; ends = λ row. refl })
either (space k ∷ is) = elim (either is) [
  | inl a ↦ inl (record {
    front_space = λ n. let e = a.front_space n in omega (arith, e);
    front_entry = λ f name. ap (λ w. k + w) (a.front_entry f name);
    ends = λ row. let e = a.ends (row + k) in omega (arith, e);
  })
  | inr s ↦ inr (record { front = λ i. ap (λ w. k + w) (s.front i); ends = λ row. s.ends (row + k) ∙ sym (s.ends (0 + k)) })
]

pub most_words_go_on : MostWordsGoOn
most_words_go_on [] (space n) = omega arith
most_words_go_on [] (entry f name) = refl
most_words_go_on (entry g own ∷ is) i = let e = most_words_go_on is i in omega (arith, e)
most_words_go_on (space k ∷ is) i = by i (most_words_go_on is i) (either is)
  where
    by : (i : Item) → largest_run (is ++ i ∷ []) ≡ max (largest_run is) (row_words (fold row_words 0 is) i) → AllFree is ⊎ SomeEntry is → largest_run (space k ∷ (is ++ i ∷ [])) ≡ max (largest_run (space k ∷ is)) (row_words (fold row_words (0 + k) is) i)
    by (space n) h (inl a) = let x = a.front_space n in let y = a.ends 0 in let z = a.ends (0 + k) in omega (arith, h, x, y, z)
    by (entry f name) h (inl a) = let x = a.front_entry f name in omega (arith, h, x)
    by (space n) h (inr s) = let x = s.front (space n) in let y = s.ends (0 + k) in omega (arith, h, x, y)
    by (entry f name) h (inr s) = let x = s.front (entry f name) in omega (arith, h, x)
