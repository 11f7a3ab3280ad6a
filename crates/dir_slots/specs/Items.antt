-- What contracts see of slots: each as its item, and the address of an entry's leader apart from it, since that is a hint.
use Rattle.std.specs.Prelude.{◌≡◌, ℕ, ◌≤◌, true, List, map}
use Rattle.std.specs.List.{flat_map}
use Rattle.alto_words.specs.Fid.{is_full_name}
use Rattle.pack_model.specs.reading.Slots.{Item, slots}
use Rattle.pack_model.specs.reading.Slots.Item.{space, entry}
use Rattle.pack_model.specs.reading.SlotWords.{entry_words, space_words, slots_at}
use Rattle.pack_model.specs.operations.Rooms.{most_free}
use Rattle.pack_model.specs.operations.Rooms as rooms
use Rattle.dir_slots.specs.declared.slot.Slot.{Slot}
use Rattle.dir_slots.specs.declared.slot.Slot.TheVariants.{Free, Entry}
use Rattle.dir_slots.specs.declared.room.Room.{Room}

-- a slot without its address
abbrev pub item_of : Slot → Item
item_of (Free n) = space n
item_of (Entry f address name) = entry f name

abbrev pub items_of : List Slot → List Item
items_of slots = map item_of slots

-- the address of an entry's leader; of a free slot 0
abbrev pub address_of : Slot → ℕ
address_of (Free n) = 0
address_of (Entry f address name) = address

-- the addresses that stand in the slots of a directory's words
abbrev pub addresses_in : List ℕ → List ℕ
addresses_in words = map (λ s. s.address) (slots_at words 0 (slots words))

-- ---- in range
-- a free slot has 1 to 1,023 words
abbrev pub IsFreeLength : ℕ → Type 0
IsFreeLength n = (1 ≤ n) × (n ≤ most_free)

abbrev pub HasFreeLength : Slot → Type 0
HasFreeLength (Free n) = IsFreeLength n
HasFreeLength (Entry f address name) = Unit {0}

-- that, and an entry's serial and version can be given
abbrev pub IsInRange : Slot → Type 0
IsInRange (Free n) = IsFreeLength n
IsInRange (Entry f address name) = is_full_name f ≡ true

-- ---- as words
abbrev pub slot_words : Slot → List ℕ
slot_words (Free n) = space_words n
slot_words (Entry f address name) = entry_words f address name

abbrev pub slots_words : List Slot → List ℕ
slots_words slots = flat_map slot_words slots

-- ---- room
abbrev pub room_of : Room → rooms.Room
room_of r = record { first = r.first; place = r.place; total = r.total }
