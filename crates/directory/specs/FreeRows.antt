-- Free slots in a row that have fewer words than an entry needs.
use Rattle.std.specs.Prelude.{ℕ, ◌<◌, ◌≤◌, All, List}
use Rattle.dir_slots.specs.Inside.{AreFree}
use Rattle.dir_slots.specs.Items.{HasFreeLength, items_of}
use Rattle.dir_slots.specs.declared.slot.Slot.{Slot}
use Rattle.pack_model.specs.reading.Slots.{Item, all_words}

-- What contracts see of them: how many words the entry needs, and the slots.
pub record RowOf : Type 0 where
  pub needed : ℕ
  pub items : List Item

abbrev pub row_of : ℕ → List Item → RowOf
row_of needed items = record { needed = needed; items = items }

-- So many slots are kept, each with a word.
pub record IsShortRow (needed count : ℕ) (slots : List Slot) : Type 0 where
  pub least : 1 ≤ needed
  pub most : needed ≤ 26
  pub count_is : count ≤ 25
  pub lengths : All HasFreeLength slots
  pub free : AreFree (items_of slots)
  pub few : all_words (items_of slots) < needed
