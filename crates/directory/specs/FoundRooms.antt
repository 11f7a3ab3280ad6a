-- The room for an entry, as it is found among slots that are met one at a time.
use Rattle.std.specs.Prelude.{◌≡◌, ℕ, ◌+◌, ◌-◌, ◌<◌, List, [], ◌∷◌, ◌++◌, get_or, MatchOption, Option, None, Some}
use Rattle.dir_slots.specs.Inside.{AreFree}
use Rattle.pack_model.specs.operations.Rooms.{Room, find_room}
use Rattle.pack_model.specs.reading.Slots.{Item, all_words, item_words}
use Rattle.pack_model.specs.reading.Slots.Item.{entry, space}
use Rattle.pack_model.specs.reading.SlotWords.{SlotAt}
use Rattle.directory.specs.FreeRows.{RowOf}
use Rattle.directory.specs.declared.free_row.RoomWords.{RoomWords}
use Rattle.directory.specs.declared.place.RoomFound.{RoomFound}

-- The room for so many words among these slots, which ends with the last of them, has so many words.
pub record IsRoomIn (n : ℕ) (items : List Item) (words : RoomWords) : Type 0 where
  pub room : Room
  pub found : find_room n items ≡ Some room
  pub ends : room.place + room.total ≡ all_words items
  pub total : words.total ≡ room.total
  pub first : words.first ≡ item_words (get_or items room.first (space 0))

-- ---- one slot more, where no room was found
-- The row has no room with it, and goes on.
pub record GoesOn (n : ℕ) (items : List Item) (new : RowOf) : Type 0 where
  pub none : find_room n items ≡ None
  pub row : new.items ≡ items

-- The row has room with it: this one, which ends where the slot ends.
pub record EndsHere (n : ℕ) (items : List Item) (end : ℕ) (found : RoomFound) : Type 0 where
  pub room : IsRoomIn n items found.words
  pub place : found.place ≡ end - found.words.total

-- an entry ends a row without room; a free slot is one of the row
abbrev pub SeeksBy : RowOf → ℕ → Item → RowOf → Option RoomFound → Type 0
SeeksBy old place (entry f name) new room = (room ≡ None) × (new.items ≡ [])
SeeksBy old place (space k) new room = MatchOption room (GoesOn old.needed (old.items ++ space k ∷ []) new) (EndsHere old.needed (old.items ++ space k ∷ []) (place + k))

pub record SeeksIn (old : RowOf) (s : SlotAt) (new : RowOf) (room : Option RoomFound) : Type 0 where
  pub needed : new.needed ≡ old.needed
  pub free : AreFree old.items
  pub few : all_words old.items < old.needed
  pub met : SeeksBy old s.place s.item new room
