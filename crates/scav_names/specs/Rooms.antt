-- Room for entries, by the free slots of a directory.
use Rattle.std.specs.Prelude.{◌≡◌, ◌⊎◌, ℕ, ◌+◌, ◌<◌, ◌≤◌, ◌^◌, ◌==◌, Bool, nat_le, false, cond, List, [], ◌∷◌, ◌++◌, length, get_or, All, Option, Some, None}
use Rattle.alto_words.specs.declared.fid.Fid.{Fid}
use Rattle.pack_model.specs.operations.Rooms.{Room, find_room, items_entered, largest_run, most_free, placed}
use Rattle.pack_model.specs.reading.Slots.{Item, all_words, item_words}
use Rattle.pack_model.specs.reading.Slots.Item.{space, entry}
use Rattle.pack_model.specs.scavenger.Mended.{with_page}
use Rattle.std.specs.Option.{is_none}
use Rattle.scav_pages.specs.laws_record.specs.SlotLaws.{IsSpace}
use Rattle.scav_names.specs.declared.rooms.EntryRoom.{EntryRoom}
use Rattle.scav_names.specs.declared.rooms.Rooms.{Rooms}

-- ---- slots
-- the free ones from a place on, each by the place of its first word, with its words
abbrev pub free_slots : ℕ → List Item → List (ℕ × ℕ)
free_slots place [] = []
free_slots place (space n ∷ is) = (place, n) ∷ free_slots (place + n) is
free_slots place (entry f name ∷ is) = free_slots (place + item_words (entry f name)) is

-- a free slot has 1 to 1,023 words
abbrev pub IsSize : Item → Type 0
IsSize (space n) = (1 ≤ n) × (n ≤ most_free)
IsSize (entry f name) = Unit {0}

-- the first is an entry
abbrev pub BeginsNamed : List Item → Type 0
BeginsNamed [] = ⊥
BeginsNamed (space n ∷ is) = ⊥
BeginsNamed (entry f name ∷ is) = Unit {0}

-- No room for so many words begins before this place: the slots before it have no such room among them, and an entry stands there, unless
-- it is the first place.
pub record IsPassedOver (n from : ℕ) (is : List Item) : Type 0 where
  pub before : List Item
  pub rest : List Item
  pub split : is ≡ before ++ rest
  pub place : all_words before ≡ from
  pub few : 1 ≤ n → largest_run before < n
  pub apart : (before ≡ []) ⊎ BeginsNamed rest

-- the rooms in memory are those of these slots
pub record HasRooms (rooms : Rooms) (is : List Item) : Type 0 where
  pub free : rooms.free.entries ≡ free_slots 0 is
  pub end_is : rooms.end ≡ all_words is
  pub few : all_words is < 2 ^ 32
  pub sizes : All IsSize is
  pub lengths : length rooms.from ≡ 27
  pub passed : (n : ℕ) → n ≤ 26 → IsPassedOver n (get_or rooms.from n 0) is

-- and no entry was placed in one yet
pub record HasSlots (rooms : Rooms) (is : List Item) : Type 0 where
  pub rooms_are : HasRooms rooms is
  pub none_placed : All (λ from. from ≡ 0) rooms.from

-- ---- in the search
-- These entries are the free slots of a directory, and a place is that of the first slot of `rest`.
pub record AreAt (free : List (ℕ × ℕ)) (place : ℕ) (before rest : List Item) : Type 0 where
  pub entries : free ≡ free_slots 0 (before ++ rest)
  pub sizes : All IsSize (before ++ rest)
  pub few : all_words (before ++ rest) < 2 ^ 32
  pub here : place ≡ all_words before

-- the words of a run, if one free slot may have so many
abbrev pub run_total : Option (ℕ × List Item) → Option ℕ
run_total None = None
run_total (Some r) = cond (nat_le r.0 most_free) (Some r.0) None

-- ---- what is done with them
-- the words of the slot whose first word has this place, if one begins there
abbrev pub words_from : ℕ → ℕ → List Item → Option ℕ
words_from at place [] = None
words_from at place (i ∷ is) = cond (at == place) (Some (item_words i)) (words_from (at + item_words i) place is)

abbrev pub words_at : ℕ → List Item → Option ℕ
words_at place is = words_from 0 place is

-- the slot whose first word has this place becomes a free one of n words
abbrev pub freed_from : ℕ → ℕ → ℕ → List Item → List Item
freed_from at place n [] = []
freed_from at place n (i ∷ is) = cond (at == place) (space n) i ∷ freed_from (at + item_words i) place n is

abbrev pub freed_at : ℕ → ℕ → List Item → List Item
freed_at place n is = freed_from 0 place n is

-- the room that was found is the first one
pub record IsFirstRoom (n : ℕ) (is : List Item) (room : EntryRoom) : Type 0 where
  pub found : Room
  pub first : find_room n is ≡ Some found
  pub place : room.place ≡ found.place
  pub first_words : room.first_words ≡ item_words (get_or is found.first (space 0))
  pub total : room.total ≡ found.total

abbrev pub IsRoom : ℕ → List Item → Option EntryRoom → Type 0
IsRoom n is None = find_room n is ≡ None
IsRoom n is (Some room) = IsFirstRoom n is room

-- These free slots are a room.
pub record IsRow (room : EntryRoom) (before row rest : List Item) : Type 0 where
  pub free : All IsSpace row
  pub sizes : All IsSize (before ++ (row ++ rest))
  pub few : all_words (before ++ (row ++ rest)) < 2 ^ 32
  pub place : room.place ≡ all_words before
  pub total : room.total ≡ all_words row
  pub short : room.total ≤ most_free

-- An entry was placed, after a page more where there was no room for it.
pub record PlacesEntry (f : Fid) (name : List ℕ) (is : List Item) (rooms : Rooms) (widened : Bool) : Type 0 where
  pub widens : widened ≡ is_none (placed (entry f name) is)
  pub finds : is_none (placed (entry f name) (cond widened (with_page is) is)) ≡ false
  pub rooms_are : HasRooms rooms (items_entered (entry f name) (cond widened (with_page is) is))
