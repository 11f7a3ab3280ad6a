-- What a caller knows of an entry that it looked up, and of its file.
use Rattle.std.specs.Prelude.{List, Some, false, true, ℕ, ◌++◌, ◌+◌, ◌<◌, ◌∷◌, ◌≡◌, ◌≤◌, ◌⊎◌}
use Rattle.laws_hint.specs.alto_words.specs.Fid.{is_directory, is_fid}
use Rattle.laws_hint.specs.alto_words.specs.Names.{is_same_name}
use Rattle.laws_hint.specs.alto_words.specs.declared.fid.Fid.{Fid}
use Rattle.laws_hint.specs.alto_words.specs.declared.wanted.Wanted.{Wanted}
use Rattle.laws_hint.specs.disk_records.specs.Packs.{Pack}
use Rattle.laws_hint.specs.disk_records.specs.declared.records.Place.{Place}
use Rattle.laws_hint.specs.laws_line.specs.LineLaws.{IsEntered}
use Rattle.laws_hint.specs.laws_operation.specs.DirectoryWords.{HasEntry}
use Rattle.laws_hint.specs.laws_operation.specs.EntryLaws.{HasName}
use Rattle.laws_hint.specs.pack_model.specs.hints.Links.{dir_slots}
use Rattle.laws_hint.specs.pack_model.specs.hints.Sources.{IsFrom}
use Rattle.laws_hint.specs.pack_model.specs.operations.Committing.{page_of_word}
use Rattle.laws_hint.specs.pack_model.specs.reading.Files.{lives, place}
use Rattle.laws_hint.specs.pack_model.specs.reading.Lookup.{EntryAt, entry_at}
use Rattle.laws_hint.specs.pack_model.specs.reading.Model.{dir_items, read_as}
use Rattle.laws_hint.specs.pack_model.specs.reading.Sights.{sights}
use Rattle.laws_hint.specs.pack_model.specs.reading.SlotWords.{address_word, slots_at}
use Rattle.laws_hint.specs.pack_model.specs.reading.Slots.Item.{entry}
use Rattle.laws_hint.specs.pack_model.specs.reading.Slots.{Item, all_words, item_words, slots}
use Rattle.laws_hint.specs.pack_model.specs.states.Whole.{Tidy, Whole}

-- ---- it lives
-- on any pack a file with an entry in the model does
abbrev pub EntryNamesALivingFile : Type 0
EntryNamesALivingFile = (p : Pack) (d f : Fid) (own : List ℕ) (a b : List Item) → dir_items (read_as p) d ≡ a ++ entry f own ∷ b → lives (sights p) f ≡ true

-- on a whole and tidy pack a file that was found does, wherever the address of its leader came from
abbrev pub FoundFileLives : Type 0
FoundFileLives = (p : Pack) (f : Fid) (at : ℕ) (from : Place) → Whole p → Tidy p → IsFrom p f at from → lives (sights p) f ≡ true

-- ---- its entry
-- on a tidy pack the entry that is meant in a living directory is the first there with its name, in whatever case
abbrev pub FoundFileIsEntered : Type 0
FoundFileIsEntered = (p : Pack) (d : Fid) (w : Wanted) (e : EntryAt) (name : List ℕ) → Tidy p → lives (sights p) d ≡ true → is_directory d ≡ true → entry_at w (dir_slots p d) ≡ Some e → is_same_name e.name name ≡ true → IsEntered (read_as p) d name e.fid

-- its own name is such a one
abbrev pub NameIsItsOwn : Type 0
NameIsItsOwn = (name : List ℕ) → is_same_name name name ≡ true

-- its file has the name in the model
abbrev pub FoundFileHasItsName : Type 0
FoundFileHasItsName = (p : Pack) (d : Fid) (w : Wanted) (e : EntryAt) (name : List ℕ) → Tidy p → lives (sights p) d ≡ true → is_directory d ≡ true → entry_at w (dir_slots p d) ≡ Some e → is_same_name e.name name ≡ true → HasName (read_as p) d name e.fid

-- The slots before it and those after it; its place is the words of those before it.
pub record CanGo (p : Pack) (d : Fid) (at : ℕ) (e : EntryAt) : Type 0 where
  pub before : List Item
  pub later : List Item
  pub place_is : all_words before ≡ e.place
  pub entry_is : HasEntry p d at before later e.fid e.name

-- with the sector of its slot's first word it is what a leaving wants, and the last value of a drop
abbrev pub FoundEntryMayGo : Type 0
FoundEntryMayGo = (p : Pack) (d : Fid) (w : Wanted) (e : EntryAt) (at : ℕ) → lives (sights p) d ≡ true → is_directory d ≡ true → entry_at w (dir_slots p d) ≡ Some e → place (sights p) d (page_of_word e.place) ≡ Some at → CanGo p d at e

-- ---- two of them
-- of entries of two files in the same words the address word of one is none of the words of the other's slot
abbrev pub EntriesStandApart : Type 0
EntriesStandApart = (words : List ℕ) (v w : Wanted) (d e : EntryAt) → entry_at v (slots_at words 0 (slots words)) ≡ Some d → entry_at w (slots_at words 0 (slots words)) ≡ Some e → is_fid d.fid e.fid ≡ false
    → (address_word e.place < d.place) ⊎ (d.place + item_words (entry d.fid d.name) ≤ address_word e.place)
