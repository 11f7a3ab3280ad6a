-- What a caller knows before it drops a file: that it has no entries of its own, and where its pages are.
use Rattle.std.specs.List.{list_any}
use Rattle.std.specs.Prelude.{Bool, List, [], false, true, ℕ, ◌≡◌}
use Rattle.laws_operation.specs.alto_words.specs.Fid.{is_directory, is_system}
use Rattle.laws_operation.specs.alto_words.specs.declared.fid.Fid.{Fid}
use Rattle.laws_operation.specs.disk_records.specs.Packs.{Pack}
use Rattle.laws_operation.specs.pack_model.specs.hints.Links.{dir_words}
use Rattle.laws_operation.specs.pack_model.specs.reading.Files.{lives}
use Rattle.laws_operation.specs.pack_model.specs.reading.Model.{dir_items, read_as}
use Rattle.laws_operation.specs.pack_model.specs.reading.Namings.{namings_in}
use Rattle.laws_operation.specs.pack_model.specs.reading.Sights.{sights}
use Rattle.laws_operation.specs.pack_model.specs.reading.Slots.{Item, slots}
use Rattle.laws_operation.specs.pack_model.specs.reading.Slots.Item.{entry, space}
use Rattle.laws_operation.specs.pack_model.specs.states.Whole.{Tidy, Whole}
use Rattle.laws_operation.specs.LifeLaws.{MayDrop}

-- ---- no entries of its own
abbrev pub is_an_entry : Item → Bool
is_an_entry (space n) = false
is_an_entry (entry f name) = true

-- the model has no entries of this file
abbrev pub IsBare : Pack → Fid → Type 0
IsBare p f = namings_in f (dir_items (read_as p) f) ≡ []

-- so it is of a file that is no directory, on a tidy pack
abbrev pub OrdinaryFileIsBare : Type 0
OrdinaryFileIsBare = (p : Pack) (f : Fid) → Tidy p → is_directory f ≡ false → IsBare p f

-- and of a directory none of whose slots is an entry
abbrev pub EmptyDirectoryIsBare : Type 0
EmptyDirectoryIsBare = (p : Pack) (d : Fid) → Tidy p → lives (sights p) d ≡ true → is_directory d ≡ true → list_any is_an_entry (slots (dir_words p d)) ≡ false → IsBare p d

-- ---- its pages
-- Its leader's sector, and those of its data pages.
pub record HasDrop (p : Pack) (f : Fid) : Type 0 where
  pub at : ℕ
  pub pages : List ℕ
  pub may : MayDrop p f at pages

-- on a whole pack such a living file may be dropped, if it is no system file
abbrev pub BareFileMayBeDropped : Type 0
BareFileMayBeDropped = (p : Pack) (f : Fid) → Whole p → lives (sights p) f ≡ true → is_system f ≡ false → IsBare p f → HasDrop p f

-- its sectors are these, and no others
abbrev pub DropIsOfTheseSectors : Type 0
DropIsOfTheseSectors = (p : Pack) (f : Fid) (at bt : ℕ) (pages others : List ℕ) → MayDrop p f at pages → MayDrop p f bt others → (at ≡ bt) × (pages ≡ others)
