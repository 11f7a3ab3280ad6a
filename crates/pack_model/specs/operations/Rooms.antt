-- Room for an entry among the slots of a directory.
-- Where an entry goes is this project's choice.
use Rattle.std.specs.Prelude.{ℕ, zero, suc, ◌+◌, ◌-◌, cond, nat_le, max, List, [], ◌∷◌, Option, Some, None}
use Rattle.std.specs.Option.{option_map, option_or, unwrap_or}
use Rattle.pack_model.specs.reading.Slots.{Item, item_words}
use Rattle.pack_model.specs.reading.Slots.Item.{space, entry}

-- the fewest free slots from here on that have so many words: their words together, and what follows them
abbrev pub run : ℕ → List Item → Option (ℕ × List Item)
run n [] = None
run n (entry f name ∷ is) = None
run n (space k ∷ is) = cond (nat_le n k) (Some (k, is)) (option_map (λ r. (k + r.0, r.1)) (run (n - k) is))

-- a free slot's length has 10 bits
abbrev pub most_free : ℕ
most_free = 1023

-- ---- where the room is
-- The slot that it begins with, that slot's first word in the directory, and the words of its slots together.
pub record Room : Type 0 where
  pub first : ℕ
  pub place : ℕ
  pub total : ℕ

abbrev pub room_here : ℕ → ℕ → Option (ℕ × List Item) → Option Room
room_here first place None = None
room_here first place (Some r) = cond (nat_le r.0 most_free) (Some (record { first = first; place = place; total = r.0 })) None

abbrev pub room_from : ℕ → ℕ → ℕ → List Item → Option Room
room_from n first place [] = None
room_from n first place (i ∷ is) = option_or (room_here first place (run n (i ∷ is))) (room_from n (suc first) (place + item_words i) is)

-- the first free slot from which adjacent free slots reach n words, with a total of at most 1,023
abbrev pub find_room : ℕ → List Item → Option Room
find_room n is = room_from n 0 0 is

-- ---- what becomes of it
abbrev pub left_over : ℕ → List Item → List Item
left_over zero is = is
left_over (suc n) is = space (suc n) ∷ is

-- an item in the place of a run, and a free slot for the words left over
abbrev pub in_run : Item → Option (ℕ × List Item) → Option (List Item)
in_run i None = None
in_run i (Some r) = cond (nat_le r.0 most_free) (Some (i ∷ left_over (r.0 - item_words i) r.1)) None

-- the slots with an item in the first room for it, if there is one
unfoldable pub placed : Item → List Item → Option (List Item)
placed i [] = None
placed i (j ∷ js) = option_or (in_run i (run (item_words i) (j ∷ js))) (option_map (λ ks. j ∷ ks) (placed i js))

-- the same, and the slots as they are where there is no room
abbrev pub items_entered : Item → List Item → List Item
items_entered i is = unwrap_or (placed i is) is

-- ---- the most free words in a row
abbrev pub words_free : List Item → ℕ
words_free [] = 0
words_free (space n ∷ is) = n + words_free is
words_free (entry f name ∷ is) = 0

-- the most free words in a row
abbrev pub largest_run : List Item → ℕ
largest_run [] = 0
largest_run (i ∷ is) = max (words_free (i ∷ is)) (largest_run is)
