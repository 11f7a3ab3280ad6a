-- What a caller sees of pack files.
use Rattle.std.specs.Prelude.{◌≡◌, ◌≢◌, ◌⊎◌, ℕ, ◌*◌, ◌<◌, ◌≤◌, List, ◌++◌, length, take, drop, All}
use Rattle.std.specs.List.{flat_map}
use Rattle.disk_records.specs.declared.records.Sector.{Sector}
use Rattle.disk_records.specs.declared.shape.Shape.{Shape}
use Rattle.disk_records.specs.Bytes.{bytes_of}
use Rattle.disk_records.specs.Words.{word}
use Rattle.disk_records.specs.Addresses.{disks_of, cylinders_of, pages_of}
use Rattle.disk_image.specs.declared.error.ImageError.{ImageError}
use Rattle.disk_image.specs.declared.error.ImageError.TheVariants.{BadLength, Unlike, Memory}

-- a sector is its header, its label and its value
abbrev pub sector_bytes : Sector → List ℕ
sector_bytes sector = bytes_of sector.header ++ (bytes_of sector.label ++ bytes_of sector.value)

-- a pack is its sectors in the order of their virtual addresses
abbrev pub pack_bytes : List Sector → List ℕ
pack_bytes sectors = flat_map sector_bytes sectors

-- a sector has 2, 8 and 256 words of 16 bits
pub record IsWhole (sector : Sector) : Type 0 where
  pub header : length sector.header ≡ 2
  pub label : length sector.label ≡ 8
  pub value : length sector.value ≡ 256
  pub header_words : (k : ℕ) → word sector.header k < 65536
  pub label_words : (k : ℕ) → word sector.label k < 65536
  pub value_words : (k : ℕ) → word sector.value k < 65536

-- these bytes are the file of this pack, which has one drive
pub record IsImage (shape : Shape) (sectors : List Sector) (bytes : List ℕ) : Type 0 where
  pub one : disks_of shape ≡ 1
  pub count : length sectors ≡ pages_of shape
  pub whole : All IsWhole sectors
  pub bytes_are : bytes ≡ pack_bytes sectors

-- the sectors of the first drive
abbrev pub first_drive : Shape → ℕ
first_drive shape = cylinders_of shape * 24

-- these two are the files of this pack, which has two drives: the sectors of the first one, and those after them
pub record AreImages (shape : Shape) (sectors : List Sector) (first second : List ℕ) : Type 0 where
  pub two : disks_of shape ≡ 2
  pub count : length sectors ≡ pages_of shape
  pub whole : All IsWhole sectors
  pub first_is : first ≡ pack_bytes (take (first_drive shape) sectors)
  pub second_is : second ≡ pack_bytes (drop (first_drive shape) sectors)

-- a file of so many bytes is a drive's: it has 2 to 406 cylinders of 24 sectors of 532 bytes
pub record IsPackLength (bytes : ℕ) : Type 0 where
  pub cylinders : ℕ
  pub least : 2 ≤ cylinders
  pub most : cylinders ≤ 406
  pub whole : bytes ≡ cylinders * 12768

-- the error of a file of so many bytes: one file is never unlike another
abbrev pub IsImageErrorAt : ℕ → ImageError → Type 0
IsImageErrorAt length (BadLength bytes) = (bytes ≡ length) × (IsPackLength length → ⊥)
IsImageErrorAt length (Unlike first second) = ⊥
IsImageErrorAt length Memory = IsPackLength length

-- the error of two files of so many bytes: the bad length of the first one, that of the second one after a right first one, or two
-- lengths that are right and differ
abbrev pub IsErrorOfTwo : ℕ → ℕ → ImageError → Type 0
IsErrorOfTwo a b (BadLength bytes) = ((bytes ≡ a) × (IsPackLength a → ⊥)) ⊎ ((bytes ≡ b) × IsPackLength a × (IsPackLength b → ⊥))
IsErrorOfTwo a b (Unlike first second) = (first ≡ a) × (second ≡ b) × IsPackLength a × IsPackLength b × (a ≢ b)
IsErrorOfTwo a b Memory = IsPackLength a × (b ≡ a)
