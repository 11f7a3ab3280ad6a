-- What an operation on one file leaves of all others, and which pages of its own it leaves.
use Rattle.std.specs.Prelude.{List, Some, [], false, length, ℕ, ◌∷◌, ◌≡◌, ◌≤◌}
use Rattle.laws_operation.specs.alto_words.specs.Fid.{is_fid}
use Rattle.laws_operation.specs.alto_words.specs.declared.fid.Fid.{Fid}
use Rattle.laws_operation.specs.disk_records.specs.Packs.{Pack, after, carried, sector_at}
use Rattle.laws_operation.specs.disk_records.specs.declared.records.Page.{Page}
use Rattle.laws_operation.specs.pack_model.specs.operations.Commands.{Claim, values_writes}
use Rattle.laws_operation.specs.pack_model.specs.operations.Committing.{page_of_byte}
use Rattle.laws_operation.specs.pack_model.specs.operations.Operations.{cut_writes, release_file_writes, grow_writes, make_writes}
use Rattle.laws_operation.specs.pack_model.specs.reading.Files.{file_bytes, lives, place}
use Rattle.laws_operation.specs.pack_model.specs.reading.Sights.{sights}
use Rattle.laws_operation.specs.pack_model.specs.states.Whole.{Tidy, Whole}
use Rattle.laws_operation.specs.ByteLaws.{MayCut, MayGrow}
use Rattle.laws_operation.specs.LifeLaws.{MayDrop, MayMake}
use Rattle.laws_operation.specs.NameLaws.{MayWiden}

-- ---- the other files
-- All files but f are as they were: the same live, each page has the same place, its sector the same words, and each file the same bytes.
pub record LeavesOthers (f : Fid) (p q : Pack) : Type 0 where
  pub living : (g : Fid) → is_fid g f ≡ false → lives (sights q) g ≡ lives (sights p) g
  pub places : (g : Fid) (n : ℕ) → is_fid g f ≡ false → place (sights q) g n ≡ place (sights p) g n
  pub sectors : (g : Fid) (n at : ℕ) → is_fid g f ≡ false → place (sights p) g n ≡ Some at → sector_at q at ≡ sector_at p at
  pub bytes : (g : Fid) → is_fid g f ≡ false → file_bytes (sights q) g ≡ file_bytes (sights p) g

-- the sector carries a page of f, or none
abbrev pub IsOfFile : Pack → Fid → ℕ → Type 0
IsOfFile p f at = (x : Page) → carried p at ≡ Some x → x.fid ≡ f

-- so do the sectors of all these values
abbrev pub AreOfFile : Pack → Fid → List (ℕ × List ℕ) → Type 0
AreOfFile p f [] = Unit {0}
AreOfFile p f (v ∷ values) = IsOfFile p f v.0 × AreOfFile p f values

-- the place of a page is of its file
abbrev pub PlaceIsOfItsFile : Type 0
PlaceIsOfItsFile = (p : Pack) (f : Fid) (n at : ℕ) → place (sights p) f n ≡ Some at → IsOfFile p f at

-- values in sectors of one file, after which the pack is whole: a put, a title, a stamp, an entering, a leaving, a freed slot, and the
-- record writes of DiskDescriptor
abbrev pub ValuesLeaveOthers : Type 0
ValuesLeaveOthers = (p : Pack) (f : Fid) (values : List (ℕ × List ℕ)) → Whole p → Whole (after p (values_writes values)) → AreOfFile p f values → LeavesOthers f p (after p (values_writes values))

abbrev pub GrowLeavesOthers : Type 0
GrowLeavesOthers = (p : Pack) (f : Fid) (new : List ℕ) (claims : List Claim) (at : ℕ) (label value : List ℕ) → Whole p → Tidy p → MayGrow p f new claims at label value → LeavesOthers f p (after p (grow_writes claims at label value))

abbrev pub WidenLeavesOthers : Type 0
WidenLeavesOthers = (p : Pack) (d : Fid) (added : List ℕ) (claims : List Claim) (at : ℕ) (label value : List ℕ) → Whole p → Tidy p → MayWiden p d added claims at label value → LeavesOthers d p (after p (grow_writes claims at label value))

abbrev pub CutLeavesOthers : Type 0
CutLeavesOthers = (p : Pack) (f : Fid) (n at : ℕ) (label later : List ℕ) → Whole p → Tidy p → MayCut p f n at label later → LeavesOthers f p (after p (cut_writes at label (sector_at p at).value later))

abbrev pub MakeLeavesOthers : Type 0
MakeLeavesOthers = (p : Pack) (f : Fid) (name : List ℕ) (moment : ℕ) (page leader : Claim) → Whole p → Tidy p → MayMake p f name moment page leader → LeavesOthers f p (after p (make_writes page leader))

-- a drop except for its entry's slot, whose value leaves all files except the directory
abbrev pub ReleaseLeavesOthers : Type 0
ReleaseLeavesOthers = (p : Pack) (f : Fid) (at : ℕ) (pages : List ℕ) → Whole p → Tidy p → MayDrop p f at pages → LeavesOthers f p (after p (release_file_writes at pages))

-- ---- pages that are carried still
-- each page of the file up to this number is carried by the sector that carried it
abbrev pub KeepsPages : Fid → ℕ → Pack → Pack → Type 0
KeepsPages f last p q = (n at : ℕ) → n ≤ last → place (sights p) f n ≡ Some at → place (sights q) f n ≡ Some at

-- after a growth or a widening all of the file's old pages
abbrev pub GrowKeepsPages : Type 0
GrowKeepsPages = (p : Pack) (f : Fid) (new : List ℕ) (claims : List Claim) (at : ℕ) (label value : List ℕ) → Whole p → Tidy p → MayGrow p f new claims at label value → KeepsPages f (page_of_byte (length (file_bytes (sights p) f))) p (after p (grow_writes claims at label value))

abbrev pub WidenKeepsPages : Type 0
WidenKeepsPages = (p : Pack) (d : Fid) (added : List ℕ) (claims : List Claim) (at : ℕ) (label value : List ℕ) → Whole p → Tidy p → MayWiden p d added claims at label value → KeepsPages d (page_of_byte (length (file_bytes (sights p) d))) p (after p (grow_writes claims at label value))

-- after a cut those up to the one that becomes the last
abbrev pub CutKeepsPages : Type 0
CutKeepsPages = (p : Pack) (f : Fid) (n at : ℕ) (label later : List ℕ) → Whole p → Tidy p → MayCut p f n at label later → KeepsPages f (page_of_byte n) p (after p (cut_writes at label (sector_at p at).value later))
