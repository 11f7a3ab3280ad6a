-- What the definitions of slots say of one another: how far words are slots, when a reader knows the next slot, and where an entry's
-- room is.
use Rattle.std.specs.Prelude.{◌++◌, ◌-◌, ◌<◌, ◌∷◌, ◌≡◌, ◌↔◌, All, List, None, Some, drop, length, take, ℕ}
use Rattle.pack_laws.specs.alto_words.specs.declared.fid.Fid.{Fid}
use Rattle.pack_laws.specs.disk_records.specs.Words.{word}
use Rattle.pack_laws.specs.pack_model.specs.operations.Rooms.{Room, find_room, left_over, placed}
use Rattle.pack_laws.specs.pack_model.specs.reading.SlotWords.{entry_words}
use Rattle.pack_laws.specs.pack_model.specs.reading.Slots.{Item, Reads, ReadsLongest, all_words, and_then, entry_length, item_words, slot_at, slots}
use Rattle.pack_laws.specs.pack_model.specs.reading.Slots.Item.{entry, space}

-- ---- how far words are slots
-- the longest prefix that slots fill is as long as they are
abbrev pub LengthIsRead : Type 0
LengthIsRead = (words : List ℕ) (is : List Item) (r : ReadsLongest words is) → length r.front ≡ all_words is

-- words are slots to their end if and only if the slots that are read have all of them
abbrev pub ReadsToTheEnd : Type 0
ReadsToTheEnd = (words : List ℕ) → Reads words (slots words) ↔ (all_words (slots words) ≡ length words)

-- ---- one entry
-- what is written of an entry that was read, with the address that stands there, are its words
abbrev pub EntryWritesBack : Type 0
EntryWritesBack = (words : List ℕ) (f : Fid) (name : List ℕ) → slot_at words ≡ Some (entry f name) → entry_words f (word words 5) name ≡ take (entry_length (length name)) words

-- ---- the first words alone are known, as those of the pages read so far
-- a slot that is read stays, whatever words follow
abbrev pub MoreAfter : Type 0
MoreAfter = (words more : List ℕ) (i : Item) → slot_at words ≡ Some i → slot_at (words ++ more) ≡ Some i

-- one that is read with more words alone has more than were there
abbrev pub NotYet : Type 0
NotYet = (words more : List ℕ) (i : Item) → slot_at words ≡ None → slot_at (words ++ more) ≡ Some i → length words < item_words i

-- the slots are the first one and those after it
abbrev pub OneByOne : Type 0
OneByOne = (words : List ℕ) → slots words ≡ and_then (slot_at words) (λ n. slots (drop n words))

-- after words that are slots to their end come the slots of the others
abbrev pub ReadsOn : Type 0
ReadsOn = (front rest : List ℕ) (is : List Item) → Reads front is → slots (front ++ rest) ≡ is ++ slots rest

-- ---- room for an item
abbrev pub IsSpace : Item → Type 0
IsSpace (space n) = Unit {0}
IsSpace (entry f name) = ⊥

-- An item in a room: the slots before it, the free ones in it, and those after it; then the item stands between, and a free slot
-- of the words left over.
pub record IsPlacedIn (r : Room) (i : Item) (old new : List Item) : Type 0 where
  pub before : List Item
  pub free : List Item
  pub behind : List Item
  pub old_are : old ≡ before ++ (free ++ behind)
  pub are_free : All IsSpace free
  pub first : r.first ≡ length before
  pub place : r.place ≡ all_words before
  pub total : r.total ≡ all_words free
  pub new_are : new ≡ before ++ i ∷ left_over (r.total - item_words i) behind

-- An item is placed if and only if a room for its words is found, and in this room.
pub record IsPlacedWhereFound (i : Item) (is : List Item) : Type 0 where
  pub neither : find_room (item_words i) is ≡ None ↔ (placed i is ≡ None)
  pub both : (r : Room) (new : List Item) → find_room (item_words i) is ≡ Some r → placed i is ≡ Some new → IsPlacedIn r i is new

abbrev pub FoundIsPlaced : Type 0
FoundIsPlaced = (i : Item) (is : List Item) → IsPlacedWhereFound i is
