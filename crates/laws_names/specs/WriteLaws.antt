-- The record writes of a mending of names, each a value of one page of a directory: what they keep and what they leave.
use Rattle.std.specs.Prelude.{◌≡◌, ◌⊎◌, ◌++◌, ◌+◌, ◌/◌, ◌<◌, ◌≤◌, ◌∷◌, [], ℕ, false, true, List, Contains, drop, get_or, length, take, Some}
use Rattle.laws_mend.specs.alto_words.specs.declared.fid.Fid.{Fid}
use Rattle.laws_mend.specs.alto_words.specs.Fid.{is_fid, is_full_name, sys_dir}
use Rattle.laws_mend.specs.alto_words.specs.Names.{is_stored_name}
use Rattle.laws_mend.specs.disk_records.specs.Packs.{Pack, is_free_at, sector_at}
use Rattle.laws_mend.specs.pack_model.specs.hints.Links.{dir_slots, dir_words}
use Rattle.laws_mend.specs.pack_model.specs.operations.PageWords.{entered_words, in_page}
use Rattle.laws_mend.specs.pack_model.specs.operations.Rooms.{Room, find_room, items_entered}
use Rattle.laws_mend.specs.pack_model.specs.reading.Bytes.{put_at}
use Rattle.laws_mend.specs.pack_model.specs.reading.Files.{file_bytes, leader, place}
use Rattle.laws_mend.specs.pack_model.specs.reading.Model.{dir_items, read_as}
use Rattle.laws_mend.specs.pack_model.specs.reading.Sights.{sights}
use Rattle.laws_mend.specs.pack_model.specs.reading.SlotWords.{SlotAt, address_word}
use Rattle.laws_mend.specs.pack_model.specs.reading.Slots.{Item, all_words, entry_length, item_words, slots}
use Rattle.laws_mend.specs.pack_model.specs.reading.Slots.Item.{entry, space}
use Rattle.laws_mend.specs.pack_model.specs.scavenger.Reports.{PagesMended}
use Rattle.laws_mend.specs.pack_model.specs.states.Whole.{Tidy}
use Rattle.laws_mend.specs.laws_record.specs.DirLaws.{DirWrite, Frees, IsLooseWord, dir_written, entered, freed}
use Rattle.laws_mend.specs.laws_lookup.specs.OwnLaws.{ReplacesSlots}
use Rattle.laws_mend.specs.laws_operation.specs.NameLaws.{IsRoom}
use Rattle.laws_mend.specs.laws_room.specs.NextLaws.{Lacking, LackingNext, MayBeEntered, mended_pack}
use Rattle.laws_names.specs.EntriesLaws.{EntriesStay}
use Rattle.laws_names.specs.Keeping.{KeepsOpen}

-- ---- what each of them leaves
-- Words of a directory are written, as many as before: what has to be kept is kept, pages are mended as before, each page has its place,
-- each file its leader, each other file its bytes, and the same sectors are free.
pub record NamesWritten (p q : Pack) (d : Fid) (w : ℕ) (new : List ℕ) : Type 0 where
  pub keeps : KeepsOpen p q
  pub mended : PagesMended q
  pub leaders_are : (f : Fid) → leader (sights q) f ≡ leader (sights p) f
  pub places_are : (f : Fid) (n : ℕ) → place (sights q) f n ≡ place (sights p) f n
  pub others : (f : Fid) → is_fid f d ≡ false → file_bytes (sights q) f ≡ file_bytes (sights p) f
  pub words_are : dir_words q d ≡ put_at w new (dir_words p d)
  pub free_are : (i : ℕ) → is_free_at q i ≡ is_free_at p i

-- the words that were written stand there, and those that stood there already change nothing
abbrev pub WrittenWordsStand : Type 0
WrittenWordsStand = (p : Pack) (d : Fid) (w at : ℕ) (new : List ℕ) → DirWrite p d w at new → take (length new) (drop w (dir_words (dir_written p w at new) d)) ≡ new

abbrev pub StandingWordsWriteNothing : Type 0
StandingWordsWriteNothing = (p : Pack) (w at : ℕ) (new : List ℕ) → take (length new) (drop (in_page w) (sector_at p at).value) ≡ new → dir_written p w at new ≡ p

-- ---- an entry that isn't kept
-- Its slot is a free one, and the pack is read and found as before.
pub record SlotIsFreed (p q : Pack) (d : Fid) (a b : List Item) (f : Fid) (name : List ℕ) : Type 0 where
  pub written : NamesWritten p q d (all_words a) (all_words (entry f name ∷ []) ∷ [])
  pub read : read_as q ≡ read_as p
  pub mended_is : mended_pack q ≡ mended_pack p
  pub slots_are : ReplacesSlots p q d a (entry f name ∷ []) (space (item_words (entry f name)) ∷ []) b

-- so it is once the first word says it
abbrev pub UnkeptSlotIsFreed : Type 0
UnkeptSlotIsFreed = (p : Pack) (d : Fid) (at : ℕ) (a b : List Item) (f : Fid) (name : List ℕ) → PagesMended p → Frees p d at a (entry f name ∷ []) b → get_or (dir_items (mended_pack p) d) (length a) (entry f name) ≡ space (item_words (entry f name))
    → SlotIsFreed p (freed p at a (entry f name ∷ [])) d a b f name

-- ---- words that say nothing
-- Other words inside free slots, or another address of an entry: the pack is read and found as before, with the same slots of each directory.
pub record LooseWordsWritten (p q : Pack) (d : Fid) (w : ℕ) (new : List ℕ) : Type 0 where
  pub written : NamesWritten p q d w new
  pub read : read_as q ≡ read_as p
  pub mended_is : mended_pack q ≡ mended_pack p
  pub slots_are : (e : Fid) → slots (dir_words q e) ≡ slots (dir_words p e)
  pub tidy : Tidy p → Tidy q

abbrev pub LooseWordsLeave : Type 0
LooseWordsLeave = (p : Pack) (d : Fid) (w at : ℕ) (new : List ℕ) → PagesMended p → DirWrite p d w at new → ((k : ℕ) → w ≤ k → k < w + length new → IsLooseWord p d k) → LooseWordsWritten p (dir_written p w at new) d w new

-- ---- the room for the next entry
-- The slots by the room that was found: those before it, its own free ones, and those after it. If the first of its own has all its words,
-- it is the only one.
pub record FoundRoom (n : ℕ) (is : List Item) (r : Room) : Type 0 where
  pub before : List Item
  pub old : List Item
  pub behind : List Item
  pub room : IsRoom n is before old behind
  pub first : r.first ≡ length before
  pub place : r.place ≡ all_words before
  pub total : r.total ≡ all_words old
  pub alone : item_words (get_or is r.first (space 0)) ≡ r.total → old ≡ space r.total ∷ []

abbrev pub RoomIsFound : Type 0
RoomIsFound = (n : ℕ) (is : List Item) (r : Room) → 1 ≤ n → find_room n is ≡ Some r → FoundRoom n is r

-- Its free slots are one: it is the room for the next entry again, which comes to stand as it would have, and the same are lacking.
pub record RoomIsOne (p q : Pack) (a old b : List Item) (f : Fid) (name : List ℕ) (rest : List (Fid × List ℕ)) : Type 0 where
  pub written : NamesWritten p q sys_dir (all_words a) (all_words old ∷ [])
  pub tidy : Tidy q
  pub lacking_is : LackingNext q f name rest
  pub slots_are : slots (dir_words q sys_dir) ≡ a ++ space (all_words old) ∷ b
  pub room : IsRoom (entry_length (length name)) (slots (dir_words q sys_dir)) a (space (all_words old) ∷ []) b
  pub same : items_entered (entry f name) (slots (dir_words q sys_dir)) ≡ items_entered (entry f name) (slots (dir_words p sys_dir))
  pub stay : EntriesStay p q

-- so it is once the first word of the first of them says the words of all
abbrev pub RoomIsMadeOne : Type 0
RoomIsMadeOne = (p : Pack) (at : ℕ) (a old b : List Item) (f : Fid) (name : List ℕ) (rest : List (Fid × List ℕ)) → PagesMended p → Tidy p → LackingNext p f name rest → place (sights p) sys_dir (all_words a / 256 + 1) ≡ Some at
    → IsRoom (entry_length (length name)) (slots (dir_words p sys_dir)) a old b → RoomIsOne p (freed p at a old) a old b f name rest

-- Words of a free slot after its first one are written: all entries stand.
pub record RoomIsWritten (p q : Pack) (d : Fid) (w : ℕ) (new : List ℕ) : Type 0 where
  pub loose : LooseWordsWritten p q d w new
  pub stay : EntriesStay p q

abbrev pub RoomWordsLeave : Type 0
RoomWordsLeave = (p : Pack) (d : Fid) (w at : ℕ) (new : List ℕ) (a b : List Item) (k : ℕ) → PagesMended p → DirWrite p d w at new → slots (dir_words p d) ≡ a ++ space k ∷ b → all_words a < w → w + length new ≤ all_words a + k
    → RoomIsWritten p (dir_written p w at new) d w new

-- ---- the next entry
-- The words of the entry that is lacking next, with the address of its file's leader page, and of a free slot for the words left over in the
-- room, which is one free slot; the new ones in the page where it begins, and the others, which stand in the next one already.
pub record CanBeEntered (p : Pack) (f : Fid) (name : List ℕ) (a b : List Item) (left address at : ℕ) (new over : List ℕ) : Type 0 where
  pub may : MayBeEntered p f name
  pub full_name : is_full_name f ≡ true
  pub stored : is_stored_name name ≡ true
  pub address_is : place (sights p) f 0 ≡ Some address
  pub room : IsRoom (entry_length (length name)) (slots (dir_words p sys_dir)) a (space (entry_length (length name) + left) ∷ []) b
  pub words_are : entered_words f address name left ≡ new ++ over
  pub write : DirWrite p sys_dir (all_words a) at new
  pub stand : take (length over) (drop (all_words a + length new) (dir_words p sys_dir)) ≡ over

-- The entry stands there, with a true address, and the others are lacking.
pub record EntryIsEntered (p q : Pack) (a : List Item) (f : Fid) (name : List ℕ) (rest : List (Fid × List ℕ)) (new : List ℕ) : Type 0 where
  pub written : NamesWritten p q sys_dir (all_words a) new
  pub tidy : Tidy q
  pub lacking_are : Lacking q rest
  pub slots_are : slots (dir_words q sys_dir) ≡ items_entered (entry f name) (slots (dir_words p sys_dir))
  pub stay : EntriesStay p q

-- so it is once the new words are written
abbrev pub NextEntryIsEntered : Type 0
NextEntryIsEntered = (p : Pack) (f : Fid) (name : List ℕ) (rest : List (Fid × List ℕ)) (a b : List Item) (left address at : ℕ) (new over : List ℕ) → PagesMended p → Tidy p → LackingNext p f name rest → CanBeEntered p f name a b left address at new over
    → EntryIsEntered p (entered p at a new) a f name rest new

-- ---- an address
-- Another address is written in an entry: every other slot of each directory stands as it stood, and this one with the new address.
pub record AddressIsSet (p q : Pack) (d : Fid) (s : SlotAt) (address : ℕ) : Type 0 where
  pub loose : LooseWordsWritten p q d (address_word s.place) (address ∷ [])
  pub stay : (e : Fid) (t : SlotAt) → Contains (dir_slots p e) t → (e ≡ d → t.place ≡ s.place → ⊥) → Contains (dir_slots q e) t
  pub come : (e : Fid) (t : SlotAt) → Contains (dir_slots q e) t → (Contains (dir_slots p e) t × (e ≡ d → t.place ≡ s.place → ⊥)) ⊎ ((e ≡ d) × (t ≡ record { place = s.place; item = s.item; address = address }))

abbrev pub AddressIsWritten : Type 0
AddressIsWritten = (p : Pack) (d : Fid) (at : ℕ) (s : SlotAt) (f : Fid) (name : List ℕ) (address : ℕ) → PagesMended p → Contains (dir_slots p d) s → s.item ≡ entry f name → DirWrite p d (address_word s.place) at (address ∷ [])
    → AddressIsSet p (dir_written p (address_word s.place) at (address ∷ [])) d s address
