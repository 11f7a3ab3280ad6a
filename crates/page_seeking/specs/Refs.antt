-- What a caller sees of files that are named: what is asked of a pack and a file, and what a call answers that isn't done.
use Rattle.std.specs.Prelude.{◌≡◌, ℕ, List, Option, Some, Result, Ok, Err, ◌⊎◌, ◌≤◌}
use Rattle.alto_words.specs.declared.fid.Fid.{Fid}
use Rattle.disk_records.specs.declared.records.Event.{Event}
use Rattle.disk_records.specs.declared.records.Page.{Page}
use Rattle.disk_records.specs.declared.records.Place.{Place}
use Rattle.disk_records.specs.declared.records.Place.TheVariants.{Root, Next}
use Rattle.disk_records.specs.Packs.{Pack, carried}
use Rattle.pack_model.specs.hints.Misled.{AnswersMisled, leader_page}
use Rattle.pack_model.specs.hints.Sources.{IsFrom}
use Rattle.pack_model.specs.states.Whole.{Whole, Tidy}
use Rattle.page_seeking.specs.declared.refs.FileRef.{FileRef}
use Rattle.page_seeking.specs.declared.refs.FileError.{FileError}
use Rattle.page_seeking.specs.declared.refs.FileError.TheVariants.{Misled, Beyond, DiskFault, Memory}

-- ---- what is asked of a pack and a file, once for all calls
-- the file's address stands where it was taken from
abbrev pub FileIsFrom : Pack → FileRef → Type 0
FileIsFrom p file = IsFrom p file.fid file.leader_at file.from

-- The same; and if it was taken from the root, as the fixed address of SysDir, the leader is there.
pub record FileIsRooted (p : Pack) (file : FileRef) : Type 0 where
  pub from : FileIsFrom p file
  pub root : file.from ≡ Root → carried p file.leader_at ≡ Some (leader_page file.fid)

-- The pack is whole and tidy, and the file's address stands where it was taken from.
pub record FileStands (p : Pack) (file : FileRef) : Type 0 where
  pub whole : Whole p
  pub tidy : Tidy p
  pub from : FileIsFrom p file

-- ---- answers
abbrev pub IfMisled : {T : Type 0} → Result T FileError → (Place → ℕ → Page → Option (List ℕ) → Type 0) → Type 0
IfMisled (Ok x) P = Unit {0}
IfMisled (Err (Misled place at wanted found)) P = P place at wanted found
IfMisled (Err (Beyond length)) P = Unit {0}
IfMisled (Err DiskFault) P = Unit {0}
IfMisled (Err Memory) P = Unit {0}

abbrev pub IfBeyond : {T : Type 0} → Result T FileError → (ℕ → Type 0) → Type 0
IfBeyond (Ok x) P = Unit {0}
IfBeyond (Err (Misled place at wanted found)) P = Unit {0}
IfBeyond (Err (Beyond length)) P = P length
IfBeyond (Err DiskFault) P = Unit {0}
IfBeyond (Err Memory) P = Unit {0}

-- A hint of this file misled as the call began, and these were the call's events until it was looked at.
pub record MisledBy (p : Pack) (events : List Event) (f : Fid) (place : Place) (at : ℕ) (wanted : Page) (found : Option (List ℕ)) : Type 0 where
  pub own : wanted.fid ≡ f
  pub answers : AnswersMisled p events place at wanted found

-- ---- on every machine
-- The hint is the address that the file is named with, and its leader was wanted.
pub record IsOwnAddress (file : FileRef) (place : Place) (at : ℕ) (wanted : Page) : Type 0 where
  pub from : place ≡ file.from
  pub address : at ≡ file.leader_at
  pub leader : wanted ≡ leader_page file.fid

-- The hint is a next link, and a page of this file after its leader was wanted.
pub record IsOwnLink (f : Fid) (place : Place) (wanted : Page) : Type 0 where
  pub followed : ℕ
  pub link : place ≡ Next followed
  pub own : wanted.fid ≡ f
  pub later : 1 ≤ wanted.number

-- no other hint is answered
abbrev pub IsOwnHint : FileRef → Place → ℕ → Page → Option (List ℕ) → Type 0
IsOwnHint file place at wanted found = IsOwnAddress file place at wanted ⊎ IsOwnLink file.fid place wanted
