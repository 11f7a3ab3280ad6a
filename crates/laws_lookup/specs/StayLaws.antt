-- What stays known of entries and of hints over an operation: on another file, and on a directory's own slots.
use Rattle.std.specs.Prelude.{List, Some, false, ℕ, ◌≡◌, ◌⊎◌, ◌↔◌}
use Rattle.laws_operation.specs.alto_words.specs.Fid.{is_directory, is_fid}
use Rattle.laws_operation.specs.alto_words.specs.declared.fid.Fid.{Fid}
use Rattle.laws_operation.specs.disk_records.specs.Packs.{Pack, after, carried}
use Rattle.laws_operation.specs.disk_records.specs.declared.records.Event.{Event}
use Rattle.laws_operation.specs.disk_records.specs.declared.records.Page.{Page}
use Rattle.laws_operation.specs.disk_records.specs.declared.records.Place.{Place}
use Rattle.laws_operation.specs.disk_records.specs.declared.records.Place.TheVariants.{Entry, Next}
use Rattle.laws_operation.specs.pack_model.specs.hints.Links.{dir_slots}
use Rattle.laws_operation.specs.pack_model.specs.hints.Misled.{IsOnDisk, Misled, StandsInEntry}
use Rattle.laws_operation.specs.pack_model.specs.operations.Commands.{values_writes}
use Rattle.laws_operation.specs.pack_model.specs.states.Whole.{Whole}
use Rattle.laws_lookup.specs.OtherLaws.{AreOfFile, KeepsPages, LeavesOthers}

-- ---- entries of another directory
-- its slots are the same, and so each entry that is looked up in it
abbrev pub SlotsOfAnotherDirectoryStay : Type 0
SlotsOfAnotherDirectoryStay = (f : Fid) (p q : Pack) (d : Fid) → LeavesOthers f p q → is_fid d f ≡ false → dir_slots q d ≡ dir_slots p d

-- the same address words mean the same pages
abbrev pub EntriesOfAnotherDirectoryStand : Type 0
EntriesOfAnotherDirectoryStand = (f : Fid) (p q : Pack) (d : Fid) (w at : ℕ) (wanted : Page) → LeavesOthers f p q → is_fid d f ≡ false → StandsInEntry p d w at wanted ↔ StandsInEntry q d w at wanted

-- so it is of each entry, if the file isn't a directory: in a put, a growth, a cut, a title, a stamp, and with DiskDescriptor's record
-- writes
abbrev pub EntriesStandBesideAnOrdinaryFile : Type 0
EntriesStandBesideAnOrdinaryFile = (f : Fid) (p q : Pack) (d : Fid) (w at : ℕ) (wanted : Page) → LeavesOthers f p q → is_directory f ≡ false → StandsInEntry p d w at wanted ↔ StandsInEntry q d w at wanted

-- the pages of another file are carried by the same sectors
abbrev pub PagesOfAnotherFileStay : Type 0
PagesOfAnotherFileStay = (f : Fid) (p : Pack) (events : List Event) (i : ℕ) (page : Page) → Whole p → LeavesOthers f p (after p events) → is_fid page.fid f ≡ false → carried p i ≡ Some page → carried (after p events) i ≡ Some page

-- ---- hints that mislead after an operation on one file
-- an address in another directory misled before, of another file, or of this one where its leader is still in its place
abbrev pub AddressMisledBefore : Type 0
AddressMisledBefore = (f : Fid) (p : Pack) (events : List Event) (d : Fid) (w at : ℕ) (wanted : Page) → Whole p → LeavesOthers f p (after p events) → is_fid d f ≡ false → (is_fid wanted.fid f ≡ false) ⊎ KeepsPages f 0 p (after p events)
    → Misled (after p events) (Entry d w) at wanted → Misled p (Entry d w) at wanted

-- a next link of another file misled before
abbrev pub LinkMisledBefore : Type 0
LinkMisledBefore = (f : Fid) (p : Pack) (events : List Event) (i at : ℕ) (wanted : Page) → Whole p → Whole (after p events) → LeavesOthers f p (after p events) → is_fid wanted.fid f ≡ false → Misled (after p events) (Next i) at wanted → Misled p (Next i) at wanted

-- ---- of whole operations
-- each hint that misleads after these record writes misled before them
abbrev pub MisledBefore : Pack → List Event → Type 0
MisledBefore p events = (place : Place) (at : ℕ) (wanted : Page) → IsOnDisk place → Misled (after p events) place at wanted → Misled p place at wanted

-- values leave all next links, on any pack
abbrev pub ValuesLeaveNextLinks : Type 0
ValuesLeaveNextLinks = (p : Pack) (values : List (ℕ × List ℕ)) (i at : ℕ) (wanted : Page) → Misled (after p (values_writes values)) (Next i) at wanted → Misled p (Next i) at wanted

-- values of a file that is no directory: a put, a title, a stamp, a new serial, opening and closing
abbrev pub ValuesMisledBefore : Type 0
ValuesMisledBefore = (p : Pack) (f : Fid) (values : List (ℕ × List ℕ)) → Whole p → Whole (after p (values_writes values)) → is_directory f ≡ false → AreOfFile p f values → MisledBefore p (values_writes values)
