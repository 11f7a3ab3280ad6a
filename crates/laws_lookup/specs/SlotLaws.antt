-- The entry that an operand means, by the slots of a directory that are met one at a time.
use Rattle.std.specs.Prelude.{Contains, List, None, Some, [], drop, true, ℕ, ◌++◌, ◌+◌, ◌||◌, ◌∷◌, ◌≡◌}
use Rattle.std.specs.Option.{option_map}
use Rattle.laws_operation.specs.alto_words.specs.Fid.{is_directory}
use Rattle.laws_operation.specs.alto_words.specs.Names.{is_same_name}
use Rattle.laws_operation.specs.alto_words.specs.declared.fid.Fid.{Fid}
use Rattle.laws_operation.specs.alto_words.specs.declared.wanted.Wanted.{Wanted}
use Rattle.laws_operation.specs.alto_words.specs.declared.wanted.Wanted.TheVariants.{Exact, Newest}
use Rattle.laws_operation.specs.disk_records.specs.Packs.{Pack}
use Rattle.laws_operation.specs.disk_records.specs.Words.{word}
use Rattle.laws_operation.specs.pack_model.specs.hints.Links.{dir_slots}
use Rattle.laws_operation.specs.pack_model.specs.hints.Misled.{StandsInEntry, leader_page}
use Rattle.laws_operation.specs.pack_model.specs.reading.Files.{lives}
use Rattle.laws_operation.specs.pack_model.specs.reading.Lookup.{EntryAt, entered, entry_at, holds_base, is_held_at, meant_by, slot_of_entry, version_met}
use Rattle.laws_operation.specs.pack_model.specs.reading.Model.{Model, dir_items, read_as}
use Rattle.laws_operation.specs.pack_model.specs.reading.Sights.{sights}
use Rattle.laws_operation.specs.pack_model.specs.reading.SlotWords.{SlotAt, address_at, address_word, slots_at}
use Rattle.laws_operation.specs.pack_model.specs.reading.Slots.{Item, all_words, item_words, slot_at, slots}
use Rattle.laws_operation.specs.pack_model.specs.reading.Slots.Item.{entry}
use Rattle.laws_operation.specs.pack_model.specs.reading.Versions.{entry_wanted, exact, greatest_version, has_base, is_held}
use Rattle.laws_operation.specs.pack_model.specs.states.Whole.{Tidy}
use Rattle.laws_operation.specs.EntryLaws.{IsOpenTo}

-- ---- a walk that meets one slot at a time
-- the slot of an item that stands in these words from a place on
abbrev pub slot_there : List ℕ → ℕ → Item → SlotAt
slot_there words place i = record { place = place; item = i; address = address_at words place i }

-- These slots of the words were met, and the next one, if there is one, begins at this place.
pub record HasMet (words : List ℕ) (met : List SlotAt) (place : ℕ) : Type 0 where
  pub all : slots_at words 0 (slots words) ≡ met ++ slots_at words place (slots (drop place words))

-- a walk begins
abbrev pub WalkBegins : Type 0
WalkBegins = (words : List ℕ) → HasMet words [] 0

-- goes on by a slot that can be read
abbrev pub WalkGoesOn : Type 0
WalkGoesOn = (words : List ℕ) (met : List SlotAt) (place : ℕ) (i : Item) → HasMet words met place → slot_at (drop place words) ≡ Some i → HasMet words (met ++ slot_there words place i ∷ []) (place + item_words i)

-- and has met all slots where none can be read
abbrev pub WalkEnds : Type 0
WalkEnds = (words : List ℕ) (met : List SlotAt) (place : ℕ) → HasMet words met place → slot_at (drop place words) ≡ None → slots_at words 0 (slots words) ≡ met

-- what is meant, and whether a base is held, once one more slot is met
abbrev pub LookupGoesOn : Type 0
LookupGoesOn = (w : Wanted) (met : List SlotAt) (s : SlotAt) → entry_at w (met ++ s ∷ []) ≡ meant_by w (entry_at w met) s

abbrev pub HeldGoesOn : Type 0
HeldGoesOn = (base : List ℕ) (met : List SlotAt) (s : SlotAt) → is_held_at base (met ++ s ∷ []) ≡ (is_held_at base met || holds_base base s.item)

-- ---- the same by the model's definitions
-- without its place and its address it is the entry that is wanted, wherever the slots stand
abbrev pub EntryAtIsTheEntryWanted : Type 0
EntryAtIsTheEntryWanted = (w : Wanted) (words : List ℕ) (place : ℕ) (is : List Item) → option_map entered (entry_at w (slots_at words place is)) ≡ entry_wanted w is

abbrev pub HeldAtIsHeld : Type 0
HeldAtIsHeld = (base : List ℕ) (words : List ℕ) (place : ℕ) (is : List Item) → is_held_at base (slots_at words place is) ≡ is_held base is

-- on a tidy pack the entry that is meant in a directory's words is the one that is wanted in the model, and the same bases are held
abbrev pub LookupIsTheModels : Type 0
LookupIsTheModels = (p : Pack) (d : Fid) (w : Wanted) → Tidy p → lives (sights p) d ≡ true → is_directory d ≡ true → option_map entered (entry_at w (dir_slots p d)) ≡ entry_wanted w (dir_items (read_as p) d)

abbrev pub HeldIsTheModels : Type 0
HeldIsTheModels = (p : Pack) (d : Fid) (base : List ℕ) → Tidy p → lives (sights p) d ≡ true → is_directory d ≡ true → is_held_at base (dir_slots p d) ≡ is_held base (dir_items (read_as p) d)

-- the version of the entry that is meant by a base is the greatest of the base, 0 where no entry has it; on a tidy pack in the model too
abbrev pub VersionMetIsTheGreatest : Type 0
VersionMetIsTheGreatest = (base words : List ℕ) (place : ℕ) (is : List Item) → version_met (entry_at (Newest base) (slots_at words place is)) ≡ greatest_version base is

abbrev pub GreatestIsTheModels : Type 0
GreatestIsTheModels = (p : Pack) (d : Fid) (base : List ℕ) → Tidy p → lives (sights p) d ≡ true → is_directory d ≡ true → version_met (entry_at (Newest base) (dir_slots p d)) ≡ greatest_version base (dir_items (read_as p) d)

-- ---- what was found
-- it stands in one of the slots
abbrev pub EntryAtIsASlot : Type 0
EntryAtIsASlot = (w : Wanted) (met : List SlotAt) (e : EntryAt) → entry_at w met ≡ Some e → Contains met (slot_of_entry e)

-- so its address word is a hint, which means its file's leader
abbrev pub FoundEntryStands : Type 0
FoundEntryStands = (p : Pack) (d : Fid) (w : Wanted) (e : EntryAt) → lives (sights p) d ≡ true → is_directory d ≡ true → entry_at w (dir_slots p d) ≡ Some e → StandsInEntry p d (address_word e.place) e.address (leader_page e.fid)

-- The slots before it and those after it; its place is the words of those before it, and its address a word of the directory.
pub record SplitsAt (words : List ℕ) (e : EntryAt) : Type 0 where
  pub before : List Item
  pub later : List Item
  pub slots_are : slots words ≡ before ++ entry e.fid e.name ∷ later
  pub place : all_words before ≡ e.place
  pub address : word words (address_word e.place) ≡ e.address

abbrev pub FoundEntrySplitsTheSlots : Type 0
FoundEntrySplitsTheSlots = (words : List ℕ) (w : Wanted) (e : EntryAt) → entry_at w (slots_at words 0 (slots words)) ≡ Some e → SplitsAt words e

-- it has the name that was wanted, in any case of its letters, or the base
abbrev pub HasNameWanted : Wanted → List ℕ → Type 0
HasNameWanted (Exact name) own = is_same_name own name ≡ true
HasNameWanted (Newest base) own = has_base base own ≡ true

abbrev pub FoundEntryHasTheName : Type 0
FoundEntryHasTheName = (w : Wanted) (met : List SlotAt) (e : EntryAt) → entry_at w met ≡ Some e → HasNameWanted w e.name

-- ---- where none was found
-- a name that no entry of a directory has is open to every file
abbrev pub AbsentNameIsOpen : Type 0
AbsentNameIsOpen = (m : Model) (d f : Fid) (name : List ℕ) → exact name (dir_items m d) ≡ None → IsOpenTo m d f name
