-- What holds of the files of packs, stated as laws of a pack and its bytes.
use Rattle.std.specs.Prelude.{◌≡◌, ℕ, List, length}
use Rattle.disk_records.specs.declared.records.Sector.{Sector}
use Rattle.disk_records.specs.declared.shape.Shape.{Shape}
use Rattle.disk_image.specs.Images.{IsImage, AreImages, IsPackLength}

-- a file is that of one pack alone: what is read from what was written is the same
abbrev pub ReadsBack : Type 0
ReadsBack = (shape other : Shape) (sectors others : List Sector) (bytes : List ℕ) → IsImage shape sectors bytes → IsImage other others bytes → (other ≡ shape) × (others ≡ sectors)

-- a pack has one file alone: what is written from what was read is the same
abbrev pub WritesBack : Type 0
WritesBack = (shape : Shape) (sectors : List Sector) (bytes again : List ℕ) → IsImage shape sectors bytes → IsImage shape sectors again → again ≡ bytes

-- the file of a pack has a pack's length
abbrev pub IsAccepted : Type 0
IsAccepted = (shape : Shape) (sectors : List Sector) (bytes : List ℕ) → IsImage shape sectors bytes → IsPackLength (length bytes)

-- the same three of two files: they are those of one pack alone
abbrev pub ReadsTwoBack : Type 0
ReadsTwoBack = (shape other : Shape) (sectors others : List Sector) (first second : List ℕ) → AreImages shape sectors first second → AreImages other others first second → (other ≡ shape) × (others ≡ sectors)

-- a pack of two drives has these two files alone
abbrev pub WritesTwoBack : Type 0
WritesTwoBack = (shape : Shape) (sectors : List Sector) (first second again also : List ℕ) → AreImages shape sectors first second → AreImages shape sectors again also → (again ≡ first) × (also ≡ second)

-- the files of a pack of two drives have one length, which is a drive's
abbrev pub AcceptsTwo : Type 0
AcceptsTwo = (shape : Shape) (sectors : List Sector) (first second : List ℕ) → AreImages shape sectors first second → IsPackLength (length first) × (length second ≡ length first)
