-- What a pack is read as: files, with no sector, label, link or table.
-- What a pack is read as is this project's choice.
use Rattle.std.specs.Prelude.{◌≡◌, ℕ, ◌+◌, ◌-◌, true, Bool, cond, nat_le, List, [], ◌∷◌, length}
use Rattle.std.specs.List.{list_any}
use Rattle.std.specs.FinMap.{entries, get}
use Rattle.disk_records.specs.alto_words.specs.declared.fid.Fid.{Fid}
use Rattle.disk_records.specs.alto_words.specs.Fid.{is_fid, sys_dir, disk_descriptor}
use Rattle.disk_records.specs.declared.shape.Shape.{Shape}
use Rattle.disk_records.specs.Addresses.{descriptor_length}
use Rattle.disk_records.specs.Words.{double}
use Rattle.disk_records.specs.Packs.{Pack}
use Rattle.pack_model.specs.reading.Bytes.{words_of}
use Rattle.pack_model.specs.reading.Sights.{Sight, sights}
use Rattle.pack_model.specs.reading.Sights.Sight.{hidden, free, stray, leads, holds}
use Rattle.pack_model.specs.reading.Files.{lives, file_bytes}
use Rattle.pack_model.specs.reading.Slots.{Item}
use Rattle.pack_model.specs.reading.Bodies.{File, Files, described, body_length, pages_for, items_in}
use Rattle.pack_model.specs.reading.Namings.{tidied, namings}

-- The shape; the number of good sectors, those from 1 up with a right header; the last serial given out; the living files but
-- DiskDescriptor.
pub record Model : Type 0 where
  pub shape : Shape
  pub good : ℕ
  pub last : ℕ
  pub files : Files

-- ---- reading
abbrev pub good_one : Sight → ℕ
good_one hidden = 0
good_one free = 1
good_one stray = 1
good_one (leads f readable l) = 1
good_one (holds f n bytes) = 1

abbrev pub good_sectors : List Sight → ℕ
good_sectors [] = 0
good_sectors (s ∷ ss) = good_one s + good_sectors ss

-- the words of DiskDescriptor
abbrev pub descriptor_words : List Sight → List ℕ
descriptor_words ss = words_of (file_bytes ss disk_descriptor)

-- the last serial is words 4 and 5, or 0 unless both stand
abbrev pub last_serial : List ℕ → ℕ
last_serial words = cond (nat_le 6 (length words)) (double words 4) 0

-- each entry that is kept is an entry, and every other slot is a free one of its length
unfoldable pub read_sights : Shape → List Sight → Model
read_sights shape ss = record {
  shape = shape;
  good = good_sectors ss;
  last = last_serial (descriptor_words ss);
  files = tidied (lives ss) (described ss);
}

-- the model of any pack
abbrev pub read_as : Pack → Model
read_as p = read_sights p.shape (sights p)

-- ---- of a model
-- the slots of a directory
abbrev pub dir_items : Model → Fid → List Item
dir_items m d = items_in (get m.files d)

-- SysDir's slots
abbrev pub root_items : Model → List Item
root_items m = dir_items m sys_dir

-- some entry is of the file
abbrev pub is_named : Model → Fid → Bool
is_named m f = list_any (λ n. is_fid n.fid f) (namings (entries m.files))

abbrev pub IsNamed : Model → Fid → Type 0
IsNamed m f = is_named m f ≡ true

-- the pages of files together
abbrev pub files_pages : List (Fid × File) → ℕ
files_pages [] = 0
files_pages (e ∷ es) = pages_for (body_length e.1.body) + files_pages es

-- the pages of DiskDescriptor
abbrev pub descriptor_pages : Shape → ℕ
descriptor_pages shape = pages_for (descriptor_length shape)

-- the good sectors that neither DiskDescriptor nor a file takes
abbrev pub room : Model → ℕ
room m = m.good - descriptor_pages m.shape - files_pages (entries m.files)
