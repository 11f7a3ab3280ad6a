-- Which packs open: by DiskDescriptor's length, its words and its mark, in this order.
use Rattle.std.specs.Prelude.{Bool, Err, List, None, Ok, Option, Result, Some, cond, ℕ, ◌==◌, ◌≡◌, ◌≢◌, [], ◌∷◌}
use Rattle.alto_words.specs.Fid.{disk_descriptor}
use Rattle.alto_words.specs.declared.fid.Fid.{Fid}
use Rattle.disk_records.specs.Addresses.{cylinders_of, descriptor_length, disks_of, pages_of, table_words}
use Rattle.disk_records.specs.Causes.{Cause, disk, never, other}
use Rattle.disk_records.specs.Packs.{Pack, carried, sector_at}
use Rattle.disk_records.specs.Words.{word}
use Rattle.disk_records.specs.declared.records.Page.{Page}
use Rattle.disk_records.specs.declared.records.Place.{Place}
use Rattle.disk_records.specs.declared.shape.Shape.{Shape}
use Rattle.hint_cache.specs.Bits.{bits_in}
use Rattle.pack_model.specs.hints.Tables.{table_in}
use Rattle.pack_model.specs.reading.Model.{descriptor_words}
use Rattle.pack_model.specs.reading.Sights.{sights}
use Rattle.pack_model.specs.states.Sentences.{EachOnce}
use Rattle.pack_model.specs.states.Sound.{mark_clean, mark_of}
use Rattle.page_seeking.specs.Refs.{FileIsFrom}
use Rattle.page_seeking.specs.Seeking.{file_length, page_number}
use Rattle.page_seeking.specs.declared.refs.FileError.{FileError}
use Rattle.page_seeking.specs.declared.refs.FileError.TheVariants as file
use Rattle.page_seeking.specs.declared.refs.FileRef.{FileRef}
use Rattle.disk_descriptor.specs.Fields.{Fits, Fields}
use Rattle.disk_descriptor.specs.declared.errors.OpenError.{OpenError}
use Rattle.disk_descriptor.specs.declared.errors.OpenError.TheVariants.{BadDescriptor, DiskFault, Memory, Misled, NoDescriptor, NoRoot, NotClean, WrongLength}

-- ---- what is asked
-- The file is DiskDescriptor, and its address stands where it was taken from, on a pack that carries no page twice. It needn't be whole.
pub record MayBeOpened (p : Pack) (entry : FileRef) : Type 0 where
  pub once : EachOnce (sights p)
  pub from : FileIsFrom p entry
  pub is_descriptor : entry.fid ≡ disk_descriptor

-- ---- the words of the shape
-- words 0 to 3 and 8, and what they have to be
abbrev pub shape_words : Shape → List (ℕ × ℕ)
shape_words shape = (0, disks_of shape) ∷ (1, cylinders_of shape) ∷ (2, 2) ∷ (3, 12) ∷ (8, table_words shape) ∷ []

-- the first of them that differs, and what it is
abbrev pub bad_word : List (ℕ × ℕ) → List ℕ → Option (ℕ × ℕ)
bad_word [] words = None
bad_word (w ∷ ws) words = cond (word words w.0 == w.1) (bad_word ws words) (Some (w.0, word words w.0))

-- ---- each answer
-- The length is another one.
pub record HasWrongLength (p : Pack) (size : ℕ) : Type 0 where
  pub is : size ≡ file_length p disk_descriptor
  pub differs : size ≢ descriptor_length p.shape

-- The length is right, and this is the first of those words that differs, and what it is.
pub record HasBadWord (p : Pack) (w found : ℕ) : Type 0 where
  pub size : file_length p disk_descriptor ≡ descriptor_length p.shape
  pub first : bad_word (shape_words p.shape) (descriptor_words (sights p)) ≡ Some (w, found)

-- Both are right, and this is the mark, which isn't the clean one.
pub record IsUnclean (p : Pack) (mark : ℕ) : Type 0 where
  pub size : file_length p disk_descriptor ≡ descriptor_length p.shape
  pub right : bad_word (shape_words p.shape) (descriptor_words (sights p)) ≡ None
  pub mark_is : mark ≡ mark_of (sights p)
  pub differs : mark ≢ mark_clean

-- All three are right; what is kept fits, with the clean mark; and the table is the one that DiskDescriptor's words hold.
pub record IsOpened (p : Pack) (kept : Fields) (busy : List Bool) : Type 0 where
  pub size : file_length p disk_descriptor ≡ descriptor_length p.shape
  pub right : bad_word (shape_words p.shape) (descriptor_words (sights p)) ≡ None
  pub fits : Fits p kept
  pub clean : kept.mark ≡ mark_clean
  pub table : busy ≡ bits_in (pages_of p.shape) (table_in p)

-- A sector carries page 1 of DiskDescriptor with the clean mark and those words as the shape has them. It is said of packs too that carry
-- this page twice.
pub record HasCleanPage (p : Pack) (f : Fid) : Type 0 where
  pub at : ℕ
  pub carries : carried p at ≡ Some (page_number f 1)
  pub clean : word (sector_at p at).value 6 ≡ mark_clean
  pub right : bad_word (shape_words p.shape) (sector_at p at).value ≡ None

-- ---- by cases
abbrev pub IfWrongLength : {T : Type 0} → Result T OpenError → (ℕ → Type 0) → Type 0
IfWrongLength (Ok x) P = Unit {0}
IfWrongLength (Err (NoRoot found)) P = Unit {0}
IfWrongLength (Err NoDescriptor) P = Unit {0}
IfWrongLength (Err (Misled place at wanted found)) P = Unit {0}
IfWrongLength (Err (WrongLength length)) P = P length
IfWrongLength (Err (BadDescriptor w found)) P = Unit {0}
IfWrongLength (Err (NotClean mark)) P = Unit {0}
IfWrongLength (Err DiskFault) P = Unit {0}
IfWrongLength (Err Memory) P = Unit {0}

abbrev pub IfBadDescriptor : {T : Type 0} → Result T OpenError → (ℕ → ℕ → Type 0) → Type 0
IfBadDescriptor (Ok x) P = Unit {0}
IfBadDescriptor (Err (NoRoot found)) P = Unit {0}
IfBadDescriptor (Err NoDescriptor) P = Unit {0}
IfBadDescriptor (Err (Misled place at wanted found)) P = Unit {0}
IfBadDescriptor (Err (WrongLength length)) P = Unit {0}
IfBadDescriptor (Err (BadDescriptor w found)) P = P w found
IfBadDescriptor (Err (NotClean mark)) P = Unit {0}
IfBadDescriptor (Err DiskFault) P = Unit {0}
IfBadDescriptor (Err Memory) P = Unit {0}

abbrev pub IfNotClean : {T : Type 0} → Result T OpenError → (ℕ → Type 0) → Type 0
IfNotClean (Ok x) P = Unit {0}
IfNotClean (Err (NoRoot found)) P = Unit {0}
IfNotClean (Err NoDescriptor) P = Unit {0}
IfNotClean (Err (Misled place at wanted found)) P = Unit {0}
IfNotClean (Err (WrongLength length)) P = Unit {0}
IfNotClean (Err (BadDescriptor w found)) P = Unit {0}
IfNotClean (Err (NotClean mark)) P = P mark
IfNotClean (Err DiskFault) P = Unit {0}
IfNotClean (Err Memory) P = Unit {0}

abbrev pub IfOpenMisled : {T : Type 0} → Result T OpenError → (Place → ℕ → Page → Option (List ℕ) → Type 0) → Type 0
IfOpenMisled (Ok x) P = Unit {0}
IfOpenMisled (Err (NoRoot found)) P = Unit {0}
IfOpenMisled (Err NoDescriptor) P = Unit {0}
IfOpenMisled (Err (Misled place at wanted found)) P = P place at wanted found
IfOpenMisled (Err (WrongLength length)) P = Unit {0}
IfOpenMisled (Err (BadDescriptor w found)) P = Unit {0}
IfOpenMisled (Err (NotClean mark)) P = Unit {0}
IfOpenMisled (Err DiskFault) P = Unit {0}
IfOpenMisled (Err Memory) P = Unit {0}

-- how opening ends if it may end well: the pack is opened, its mark isn't the clean one, or the disk gave out
abbrev pub OpensIfClean : {T : Type 0} → Result T OpenError → Type 0
OpensIfClean (Ok x) = Unit {0}
OpensIfClean (Err (NoRoot found)) = ⊥
OpensIfClean (Err NoDescriptor) = ⊥
OpensIfClean (Err (Misled place at wanted found)) = ⊥
OpensIfClean (Err (WrongLength length)) = ⊥
OpensIfClean (Err (BadDescriptor w found)) = ⊥
OpensIfClean (Err (NotClean mark)) = Unit {0}
OpensIfClean (Err DiskFault) = Unit {0}
OpensIfClean (Err Memory) = Unit {0}

-- the answer if a page of DiskDescriptor isn't read: past its end it is too short
abbrev pub open_error : FileError → OpenError
open_error (file.Misled place at wanted found) = Misled place at wanted found
open_error (file.Beyond length) = WrongLength length
open_error file.DiskFault = DiskFault
open_error file.Memory = Memory

-- that there is no root, or no DiskDescriptor, whoever looks for them answers
abbrev pub cause_of_opening : OpenError → Cause
cause_of_opening (NoRoot found) = never
cause_of_opening NoDescriptor = never
cause_of_opening (Misled place at wanted found) = other
cause_of_opening (WrongLength length) = other
cause_of_opening (BadDescriptor w found) = other
cause_of_opening (NotClean mark) = other
cause_of_opening DiskFault = disk
cause_of_opening Memory = other
