-- What holds of slots and their words.
use Rattle.std.specs.Prelude.{◌≡◌, ◌↔◌, ℕ, true, List, map, length, All}
use Rattle.alto_words.specs.Names.{is_stored_name}
use Rattle.pack_model.specs.reading.Slots.{Item, all_words, slots, ReadsLongest}
use Rattle.dir_slots.specs.declared.slot.Slot.{Slot}
use Rattle.dir_slots.specs.declared.slot.Slot.TheVariants.{Free, Entry}
use Rattle.dir_slots.specs.Items.{items_of, address_of, addresses_in, slots_words, IsInRange}

-- the name of an entry is a stored name
abbrev pub HasStoredName : Slot → Type 0
HasStoredName (Free n) = Unit {0}
HasStoredName (Entry f address name) = is_stored_name name ≡ true

-- the words of slots are read as these slots, to their end
abbrev pub ReadsBack : Type 0
ReadsBack = (ss : List Slot) → All IsInRange ss → All HasStoredName ss → (slots (slots_words ss) ≡ items_of ss) × (addresses_in (slots_words ss) ≡ map address_of ss) × (all_words (items_of ss) ≡ length (slots_words ss))

-- the slots of words are those of their longest prefix that slots fill to its end, and no others are
abbrev pub LongestIsRead : Type 0
LongestIsRead = (words : List ℕ) (is : List Item) → ReadsLongest words is ↔ (is ≡ slots words)
