-- The operations by which a file comes to live or goes: make and drop.
use Rattle.std.specs.Prelude.{List, Some, [], cond, false, length, true, ℕ, ◌∷◌, ◌≡◌, ◌≢◌}
use Rattle.laws_contents.specs.alto_words.specs.Fid.{disk_descriptor, is_directory, is_fid, is_system, serial_of}
use Rattle.laws_contents.specs.alto_words.specs.declared.fid.Fid.{Fid}
use Rattle.laws_contents.specs.disk_records.specs.Commands.{value_writes}
use Rattle.laws_contents.specs.disk_records.specs.Labels.{page_of}
use Rattle.laws_contents.specs.disk_records.specs.Packs.{Pack, after, is_free_at, sector_at}
use Rattle.laws_contents.specs.disk_records.specs.declared.records.Event.{Event}
use Rattle.laws_contents.specs.pack_model.specs.reading.Bytes.{bytes_of}
use Rattle.laws_contents.specs.pack_model.specs.operations.Commands.{Claim, claimed}
use Rattle.laws_contents.specs.pack_model.specs.operations.Committing.{length_of, page_of_byte, units}
use Rattle.laws_contents.specs.pack_model.specs.reading.Files.{file_bytes, lives, place}
use Rattle.laws_contents.specs.pack_model.specs.reading.Leaders.{is_readable, leader_of, leader_words}
use Rattle.laws_contents.specs.pack_model.specs.sessions.Meanings.{Drops, Meets}
use Rattle.laws_contents.specs.pack_model.specs.reading.Model.{dir_items, read_as}
use Rattle.laws_contents.specs.pack_model.specs.reading.Namings.{namings_in}
use Rattle.laws_contents.specs.pack_model.specs.operations.Operations.{Move, drop_writes, release_file_moves, release_file_writes, make_writes}
use Rattle.laws_contents.specs.pack_model.specs.operations.Operations.Move.{quiet}
use Rattle.laws_contents.specs.pack_model.specs.operations.PageWords.{freed_value, page_number}
use Rattle.laws_contents.specs.pack_model.specs.reading.Sights.{sights}
use Rattle.laws_contents.specs.pack_model.specs.reading.SlotWords.{space_words}
use Rattle.laws_contents.specs.pack_model.specs.reading.Slots.{Item, all_words, item_words}
use Rattle.laws_contents.specs.pack_model.specs.reading.Slots.Item.{entry}
use Rattle.laws_contents.specs.pack_model.specs.operations.Step.{new_leader, step}
use Rattle.laws_contents.specs.pack_model.specs.operations.Step.Operation.{drop_file, make}
use Rattle.laws_contents.specs.pack_model.specs.states.Whole.{Tidy, TidyBut, Whole}
use Rattle.laws_contents.specs.laws_record.specs.DirLaws.{Frees}
use Rattle.laws_operation.specs.ByteLaws.{Bear}
use Rattle.laws_operation.specs.Outcomes.{CarriesOut, CutsAreViewed, KeepsDescriptor, StillFits}

-- ---- make
-- page 1 of a new file: no bytes, or for a directory one free slot of 255 words
abbrev pub first_bytes : Fid → List ℕ
first_bytes f = cond (is_directory f) (bytes_of (space_words 255)) []

-- No file lives with this full name, whose serial is the last one given out; two free sectors; the label and the value of its
-- first page; the label of its leader, and a value that says the new leader.
pub record MayMake (p : Pack) (f : Fid) (name : List ℕ) (moment : ℕ) (page leader : Claim) : Type 0 where
  pub no_descriptor : is_fid f disk_descriptor ≡ false
  pub not_there : lives (sights p) f ≡ false
  pub last : (read_as p).last ≡ serial_of f
  pub page_free : is_free_at p page.at ≡ true
  pub leader_free : is_free_at p leader.at ≡ true
  pub two : leader.at ≢ page.at
  pub page_is : page_of page.label ≡ Some (page_number f 1)
  pub bytes : (claimed page).1 ≡ first_bytes f
  pub leader_is : page_of leader.label ≡ Some (page_number f 0)
  pub readable : is_readable (leader_words leader.value) ≡ true
  pub says : leader_of f leader.value ≡ new_leader name moment

-- the two claims are the making
abbrev pub MakeCarriesOut : Type 0
MakeCarriesOut = (p : Pack) (f : Fid) (name : List ℕ) (moment : ℕ) (page leader : Claim) → Whole p → Tidy p → MayMake p f name moment page leader → CarriesOut p (make_writes page leader) (make f name moment)

-- ---- drop
-- A file that isn't a system file and has no entries of its own; the sector of its leader, and those of its data pages, rising.
pub record MayDrop (p : Pack) (f : Fid) (at : ℕ) (pages : List ℕ) : Type 0 where
  pub no_system : is_system f ≡ false
  pub sector : place (sights p) f 0 ≡ Some at
  pub bare : namings_in f (dir_items (read_as p) f) ≡ []
  pub number : length pages ≡ page_of_byte (length (file_bytes (sights p) f))
  pub pages_are : Bear (sights p) f 1 pages

-- the moves of a drop except the last one
abbrev pub first_moves : Pack → Fid → List Move
first_moves p f = release_file_moves (drop_file f) (units (page_of_byte (length_of (read_as p) f)))

-- All record writes but the last: the file is gone, its entry's slot is left, and the pack is tidy except this one.
pub record GoesOut (p : Pack) (f : Fid) (events : List Event) : Type 0 where
  pub drops : Drops p f events (first_moves p f)
  pub cuts : CutsAreViewed p events (first_moves p f)
  pub ends : read_as (after p events) ≡ step (read_as p) (drop_file f)
  pub descriptor : KeepsDescriptor p (after p events)
  pub fits : StillFits p (after p events)

-- the releases are the drop except its slot
abbrev pub ReleaseCarriesOut : Type 0
ReleaseCarriesOut = (p : Pack) (f : Fid) (at : ℕ) (pages : List ℕ) → Whole p → Tidy p → MayDrop p f at pages → GoesOut p f (release_file_writes at pages)

-- The last: on a whole pack that is tidy except the entry of a file that doesn't live, the value in which its slot is a free one
-- changes nothing that is read, and leaves a whole and tidy pack.
pub record SlotFreed (p : Pack) (events : List Event) : Type 0 where
  pub meets : Meets p events (quiet ∷ [])
  pub descriptor : KeepsDescriptor p (after p events)
  pub fits : StillFits p (after p events)

-- so it is for such a value
abbrev pub SlotCarriesOut : Type 0
SlotCarriesOut = (p : Pack) (f d : Fid) (at : ℕ) (a b : List Item) (own : List ℕ) → Whole p → TidyBut f (sights p) → lives (sights p) f ≡ false → Frees p d at a (entry f own ∷ []) b
    → SlotFreed p (value_writes at (freed_value (all_words a) (item_words (entry f own)) (sector_at p at).value))

-- What is known of the slot of a file's entry once the file is gone was so before, and its sector has the words that it had: so a look-up
-- between the two parts serves the whole drop.
pub record StoodBefore (p q : Pack) (f d : Fid) (at : ℕ) (a b : List Item) (own : List ℕ) : Type 0 where
  pub frees : Frees p d at a (entry f own ∷ []) b
  pub sector : sector_at q at ≡ sector_at p at

-- so it is after the releases of a drop
abbrev pub SlotOfADropStoodBefore : Type 0
SlotOfADropStoodBefore = (p : Pack) (f d : Fid) (at : ℕ) (pages : List ℕ) (slot_at : ℕ) (a b : List Item) (own : List ℕ) → Whole p → Tidy p → MayDrop p f at pages
    → Frees (after p (release_file_writes at pages)) d slot_at a (entry f own ∷ []) b → StoodBefore p (after p (release_file_writes at pages)) f d slot_at a b own

-- all of it, where the file has an entry
abbrev pub DropCarriesOut : Type 0
DropCarriesOut = (p : Pack) (f : Fid) (at : ℕ) (pages : List ℕ) (d : Fid) (slot_at : ℕ) (a b : List Item) (own : List ℕ) → Whole p → Tidy p → MayDrop p f at pages → Frees p d slot_at a (entry f own ∷ []) b
    → CarriesOut p (drop_writes at pages slot_at (freed_value (all_words a) (item_words (entry f own)) (sector_at p slot_at).value)) (drop_file f)
