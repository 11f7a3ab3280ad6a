-- What a caller sees of the place of a new entry.
use Rattle.std.specs.Prelude.{◌≡◌, ℕ, List, get_or, length, None, Option, Some}
use Rattle.alto_words.specs.declared.fid.Fid.{Fid}
use Rattle.alto_words.specs.declared.wanted.Wanted.TheVariants.{Exact}
use Rattle.disk_records.specs.Packs.{Pack}
use Rattle.pack_model.specs.hints.Links.{dir_slots, dir_words}
use Rattle.pack_model.specs.operations.Rooms.{Room, find_room, largest_run}
use Rattle.pack_model.specs.reading.Lookup.{EntryAt, entry_at}
use Rattle.pack_model.specs.reading.Slots.{Item, entry_length, item_words, slots}
use Rattle.pack_model.specs.reading.Slots.Item.{space}
use Rattle.directory.specs.Found.{IsAbsent}
use Rattle.directory.specs.declared.place.RoomFound.{RoomFound}

-- the room for an entry of this name in a directory
abbrev pub room_for : Pack → Fid → List ℕ → Option Room
room_for p d name = find_room (entry_length (length name)) (slots (dir_words p d))

-- Some entry has the name, in whatever case of its letters.
pub record IsTaken (p : Pack) (d : Fid) (name : List ℕ) : Type 0 where
  pub entry : EntryAt
  pub named : entry_at (Exact name) (dir_slots p d) ≡ Some entry

-- No entry has the name, but there is no room; this is the greatest number of free words in a row.
pub record HasNoRoom (p : Pack) (d : Fid) (name : List ℕ) (largest : ℕ) : Type 0 where
  pub absent : IsAbsent p d (Exact name)
  pub none : room_for p d name ≡ None
  pub most : largest ≡ largest_run (slots (dir_words p d))

-- These are the place and the words of a room for so many words among slots.
pub record IsRoomAmong (n : ℕ) (items : List Item) (found : RoomFound) : Type 0 where
  pub room : Room
  pub is : find_room n items ≡ Some room
  pub place : found.place ≡ room.place
  pub total : found.words.total ≡ room.total
  pub first : found.words.first ≡ item_words (get_or items room.first (space 0))

-- No entry has the name, and this is the room.
pub record IsPlaceFor (p : Pack) (d : Fid) (name : List ℕ) (found : RoomFound) : Type 0 where
  pub absent : IsAbsent p d (Exact name)
  pub room : IsRoomAmong (entry_length (length name)) (slots (dir_words p d)) found

-- No entry had the name, and there was room.
pub record HadRoom (p : Pack) (d : Fid) (name : List ℕ) : Type 0 where
  pub absent : IsAbsent p d (Exact name)
  pub room : Room
  pub found : room_for p d name ≡ Some room
