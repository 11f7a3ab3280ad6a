-- Whole packs once more, sentence by sentence, by asking of all sectors.
-- What a whole pack is, is this project's choice, over the labels of the SOSP 1979 paper.
use Rattle.std.specs.Prelude.{◌≡◌, ◌⊎◌, ℕ, suc, ◌/◌, ◌≤◌, Bool, true, List, length, get_or, Some}
use Rattle.std.specs.Option.{is_some}
use Rattle.disk_records.specs.alto_words.specs.declared.fid.Fid.{Fid}
use Rattle.disk_records.specs.alto_words.specs.Fid.{is_directory, serial_of, sys_dir, disk_descriptor}
use Rattle.disk_records.specs.declared.shape.Shape.{Shape}
use Rattle.disk_records.specs.Addresses.{descriptor_length}
use Rattle.disk_records.specs.Packs.{Pack}
use Rattle.pack_model.specs.reading.Leaders.{Leader}
use Rattle.pack_model.specs.reading.Sights.{Sight, sights}
use Rattle.pack_model.specs.reading.Sights.Sight.{hidden, free, leads}
use Rattle.pack_model.specs.reading.Files.{lives, file_bytes, carries_page, place}
use Rattle.pack_model.specs.reading.Slots.{SlotsReachEnd}
use Rattle.pack_model.specs.reading.Model.{IsNamed, descriptor_words, read_sights}
use Rattle.pack_model.specs.states.InUse.{in_use, is_good}
use Rattle.pack_model.specs.states.Whole.{SaysShape}

-- a good sector is free or in use
abbrev pub IsUsed : Shape → List Sight → ℕ → Type 0
IsUsed shape ss i = is_good (get_or ss i hidden) ≡ true → (get_or ss i hidden ≡ free) ⊎ (in_use shape ss (i, get_or ss i hidden) ≡ true)

-- no page is carried twice
abbrev pub EachOnce : List Sight → Type 0
EachOnce ss = (f : Fid) (n i j : ℕ) → carries_page f n (get_or ss i hidden) ≡ true → carries_page f n (get_or ss j hidden) ≡ true → i ≡ j

-- the page that the end of the file's bytes is in is carried
abbrev pub HasLastPage : List Sight → Fid → Type 0
HasLastPage ss f = is_some (place ss f (suc (length (file_bytes ss f) / 512))) ≡ true

-- the name in the file's leader can be read
abbrev pub HasReadableName : List Sight → Fid → Type 0
HasReadableName ss f = (at : ℕ) (readable : Bool) (l : Leader) → place ss f 0 ≡ Some at → get_or ss at hidden ≡ leads f readable l → readable ≡ true

-- what the pages of a whole pack are
pub record PagesWhole (shape : Shape) (ss : List Sight) : Type 0 where
  pub used : (i : ℕ) → IsUsed shape ss i
  pub once : EachOnce ss
  pub last_pages : (f : Fid) → lives ss f ≡ true → HasLastPage ss f
  pub readable : (f : Fid) → lives ss f ≡ true → HasReadableName ss f
  pub directories : (d : Fid) → lives ss d ≡ true → is_directory d ≡ true → SlotsReachEnd (file_bytes ss d)
  pub root : (l : Leader) × (readable : Bool) × (get_or ss 1 hidden ≡ leads sys_dir readable l)
  pub descriptor_lives : lives ss disk_descriptor ≡ true
  pub descriptor_size : length (file_bytes ss disk_descriptor) ≡ descriptor_length shape

-- and what stands in SysDir and in DiskDescriptor
pub record WholeBySentences (shape : Shape) (ss : List Sight) : Type 0 where
  pub pages : PagesWhole shape ss
  pub root_named : IsNamed (read_sights shape ss) sys_dir
  pub descriptor_named : IsNamed (read_sights shape ss) disk_descriptor
  pub descriptor_says : SaysShape shape (descriptor_words ss)
  pub last : (f : Fid) → lives ss f ≡ true → serial_of f ≤ (read_sights shape ss).last

abbrev pub IsWholeBySentences : Pack → Type 0
IsWholeBySentences p = WholeBySentences p.shape (sights p)
