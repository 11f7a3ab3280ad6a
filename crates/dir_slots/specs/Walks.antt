-- A walk over the slots of a directory, whose words are given page by page.
use Rattle.std.specs.Prelude.{◌≡◌, ℕ, ◌<◌, ◌++◌, Bool, true, false, List, length, take, drop, Option}
use Rattle.std.specs.Option.{option_map, option_to_list}
use Rattle.pack_model.specs.reading.Slots.{all_words, first_length, slots}
use Rattle.pack_model.specs.reading.SlotWords.{SlotAt, slots_at}
use Rattle.dir_slots.specs.Items.{item_of, address_of}
use Rattle.dir_slots.specs.declared.walk.PlacedSlot.{PlacedSlot}

-- the slots of a directory's words as they stand
abbrev pub placed_slots : List ℕ → List SlotAt
placed_slots words = slots_at words 0 (slots words)

-- a slot that was met, as it stands in the directory
abbrev pub slot_met : PlacedSlot → SlotAt
slot_met met = record { place = met.place; item = item_of met.slot; address = address_of met.slot }

-- What is kept between two calls: the place in the directory of the slot in hand, how many of its words have come, the first 26 of
-- these, and whether a slot was met that can't be read.
pub record Walking : Type 0 where
  pub place : ℕ
  pub held : ℕ
  pub front : List ℕ
  pub ended : Bool

-- these words are in hand
pub record IsHeld (walk : Walking) (hand : List ℕ) : Type 0 where
  pub held : walk.held ≡ length hand
  pub front : walk.front ≡ take 26 hand

-- words that don't reach the end of the slot that they begin, or none
abbrev pub IsOpen : List ℕ → Type 0
IsOpen hand = 0 < length hand → length hand < first_length hand

-- So many words of the directory were given, from its first on: the walk stands after the slots of these, and has the words after
-- them in hand. Where it has ended, no words that follow make another slot.
pub record Walked (given : List ℕ) (walk : Walking) : Type 0 where
  pub place : walk.place ≡ all_words (slots given)
  pub held : walk.ended ≡ false → IsHeld walk (drop (all_words (slots given)) given)
  pub unfinished : walk.ended ≡ false → IsOpen (drop (all_words (slots given)) given)
  pub ended : walk.ended ≡ true → (more : List ℕ) → slots (given ++ more) ≡ slots given

-- From the words `before` on to the words `after`, one slot more or none was met: it is the only one that ends among these.
pub record Meets (before after : List ℕ) (walk : Walking) (met : Option PlacedSlot) : Type 0 where
  pub walked : Walked after walk
  pub slots : placed_slots after ≡ placed_slots before ++ option_to_list (option_map slot_met met)
