-- What calls find that look for the operands of a line, on a sound pack.
use Rattle.std.specs.Prelude.{◌≡◌, ℕ, true, IfSome, List, [], ◌∷◌, Option, Some, None}
use Rattle.std.specs.Option.{option_map}
use Rattle.alto_words.specs.declared.fid.Fid.{Fid}
use Rattle.alto_words.specs.Fid.{is_directory, sys_dir}
use Rattle.alto_words.specs.declared.wanted.Wanted.{Wanted}
use Rattle.disk_records.specs.Packs.{Pack}
use Rattle.disk_records.specs.declared.records.Place.TheVariants.{Root}
use Rattle.pack_model.specs.reading.Files.{first}
use Rattle.pack_model.specs.reading.Model.{Model, dir_items, read_as}
use Rattle.pack_model.specs.reading.Versions.{entry_wanted}
use Rattle.page_seeking.specs.Refs.{FileIsFrom}
use Rattle.page_seeking.specs.declared.refs.FileRef.{FileRef}
use Rattle.exec_words.specs.declared.line.Path.{Path}
use Rattle.exec_words.specs.declared.line.Target.{Target}
use Rattle.exec_words.specs.declared.reply.Refusal.{Refusal}
use Rattle.exec_words.specs.declared.reply.Refusal.TheVariants as refusal
use Rattle.session_model.specs.Finding.{dir_of, file_at, entry_meant}
use Rattle.session_model.specs.Operands.{Operand, Use}
use Rattle.session_model.specs.Refusals.{missing, of_wrong_kind, of_system}
use Rattle.session_model.specs.Touched.{dir_named, operand_files}
use Rattle.exec_session.specs.declared.operands.Found.{Found}

-- ---- directories
-- SysDir with its fixed address
abbrev pub root_ref : FileRef
root_ref = record { fid = sys_dir; leader_at = 1; from = Root }

-- The directory, whatever it is, of this name, and its address stands where it was taken from.
pub record IsDirOf (p : Pack) (name : Option (List ℕ)) (dir : FileRef) : Type 0 where
  pub is : dir_of (read_as p) name ≡ Some dir.fid
  pub from : FileIsFrom p dir

-- there is none
abbrev pub IsNoDirOf : Pack → Option (List ℕ) → Refusal → Type 0
IsNoDirOf p name r = (r ≡ refusal.NoSuchName) × (dir_of (read_as p) name ≡ None)

-- ---- entries
-- The entry of a directory that is wanted is the model's, with an address of its file that stands where it was taken from; or there is none.
pub record IsInDir (p : Pack) (d : Fid) (w : Wanted) (found : Option (FileRef × List ℕ)) : Type 0 where
  pub is : entry_wanted w (dir_items (read_as p) d) ≡ option_map (λ x. (x.0.fid, x.1)) found
  pub from : IfSome found (λ x. FileIsFrom p x.0)

-- ---- files
-- The file that a path means, its directory and the name of its entry.
pub record IsAtPath (p : Pack) (path : Path) (found : Found) : Type 0 where
  pub dir : IsDirOf p path.dir found.dir
  pub directory : is_directory found.dir.fid ≡ true
  pub entry : entry_meant (read_as p) path ≡ Some (found.file.fid, found.name)
  pub from : FileIsFrom p found.file

-- The file that an operand means.
pub record IsAt (p : Pack) (target : Target) (file : FileRef) : Type 0 where
  pub is : file_at (read_as p) target ≡ Some file.fid
  pub from : FileIsFrom p file

-- no file is meant
abbrev pub IsNoneAt : Pack → Target → Refusal → Type 0
IsNoneAt p target r = (r ≡ refusal.NoSuchName) × (file_at (read_as p) target ≡ None)

-- the files whose hints are followed for an operand; for its directory alone none of its file's own is
abbrev pub dirs_followed : Pack → Target → List Fid
dirs_followed p target = sys_dir ∷ dir_named (read_as p) target

abbrev pub files_followed : Pack → Operand → List Fid
files_followed p o = sys_dir ∷ operand_files (read_as p) o

-- ---- an operand with its tests: that it is there, of the right kind, and no system file where none is taken
abbrev pub operand_tests : Model → Operand → List (Option Refusal)
operand_tests m o = missing m o ∷ of_wrong_kind m o ∷ of_system m o ∷ []

abbrev pub operand_refusal : Pack → Operand → Option Refusal
operand_refusal p o = first (λ r. r) (operand_tests (read_as p) o)

abbrev pub operand : Target → Use → Operand
operand target used = record { target = target; used = used }
