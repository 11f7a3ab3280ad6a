-- What a copy and a rename find before they write, and what is asked of the pack for their steps.
-- The order of refusals is this project's choice.
use Rattle.std.specs.Prelude.{◌≡◌, ◌+◌, ◌/◌, ◌≤◌, ℕ, true, false, not, List, [], ◌∷◌, ◌++◌, length, Option, Some, None}
use Rattle.std.specs.Option.{option_or}
use Rattle.alto_words.specs.declared.fid.Fid.{Fid}
use Rattle.alto_words.specs.Fid.{disk_descriptor, is_directory, is_fid, is_system}
use Rattle.alto_words.specs.Names.{is_stored_name}
use Rattle.disk_records.specs.Packs.{Pack}
use Rattle.directory.specs.Asked.{DirStands}
use Rattle.exec_words.specs.declared.line.Line.TheVariants as line
use Rattle.exec_words.specs.declared.line.Path.{Path}
use Rattle.exec_words.specs.declared.line.Target.{Target}
use Rattle.exec_words.specs.declared.reply.Refusal.{Refusal}
use Rattle.exec_words.specs.declared.reply.Refusal.TheVariants as refusal
use Rattle.exec_session.specs.laws_line.specs.LineLaws.{IsEntered}
use Rattle.exec_session.specs.laws_lookup.specs.EnteringLaws.{IsEnterable}
use Rattle.laws_operation.specs.ByteLaws.{IsOrdinary}
use Rattle.exec_session.specs.laws_session.specs.UnrefusedLaws.{TakesName}
use Rattle.page_seeking.specs.Refs.{FileStands}
use Rattle.pack_model.specs.operations.Rooms.{largest_run}
use Rattle.pack_model.specs.operations.Step.{Operation}
use Rattle.pack_model.specs.operations.Step.Operation.{enter, leave, title}
use Rattle.pack_model.specs.reading.Files.{place}
use Rattle.pack_model.specs.reading.Model.{Model, dir_items, read_as}
use Rattle.pack_model.specs.reading.Sights.{sights}
use Rattle.pack_model.specs.reading.Slots.{entry_length}
use Rattle.pack_model.specs.reading.Versions.{exact}
use Rattle.session_model.specs.Effects.{copied_ops, widenings}
use Rattle.session_model.specs.Finding.{dir_of, is_path_taken}
use Rattle.session_model.specs.Keeping.{Kept}
use Rattle.session_model.specs.Refusals.{when, when_found, when_missing}
use Rattle.exec_session.specs.Found.{IsAt, IsAtPath, IsDirOf}
use Rattle.exec_steps.specs.Rooms.{pages_planned}
use Rattle.exec_session.specs.declared.operands.Found.{Found}
use Rattle.exec_steps.specs.declared.rooms.NewEntry.{NewEntry}
use Rattle.exec_steps.specs.Asked.{MayMakeEntered, MayWidenFirst, first_widenings, made_entered}
use Rattle.exec_writing.specs.Entries.{IsNewEntry, PlansPath}
use Rattle.exec_writing.specs.declared.copy.Copying.{Copying}
use Rattle.exec_writing.specs.declared.rename.Renaming.{Renaming}

-- ---- a file and the new name's directory
-- a file that is no ordinary one, or a directory that is none
abbrev pub kinds_refusal : Fid → Fid → Option Refusal
kinds_refusal f d =
    option_or (when (is_directory f) refusal.IsADirectory)
    (option_or (when (not (is_directory d)) refusal.NotADirectory) (when (is_fid f disk_descriptor) refusal.SystemFile))

-- the first reason against a new name for a file that is there
abbrev pub place_refusal : Model → Fid → Path → Option Refusal
place_refusal m f path =
    option_or (when_missing (dir_of m path.dir) refusal.NoSuchName)
    (option_or (when_found (dir_of m path.dir) (kinds_refusal f)) (when (is_path_taken m path) refusal.NameTaken))

-- The file is an ordinary one, and nothing is against its new name: its directory is found, and this is its new entry.
pub record IsPlaced (p : Pack) (f : Fid) (path : Path) (e : NewEntry) : Type 0 where
  pub unrefused : place_refusal (read_as p) f path ≡ None
  pub ordinary : IsOrdinary f
  pub dir : IsDirOf p path.dir e.dir
  pub directory : is_directory e.dir.fid ≡ true
  pub entry : IsNewEntry p e.dir path.wanted e

-- The file that is copied is an ordinary one, the one that is meant, and this is the new entry.
pub record IsCopying (p : Pack) (target : Target) (path : Path) (plan : Copying) : Type 0 where
  pub source : IsAt p target plan.source
  pub ordinary : IsOrdinary plan.source.fid
  pub entry : PlansPath p (line.Copy target path) path plan.entry

-- The file that is renamed is an ordinary one, the one that is meant; its directory and its name are found, its leader is in this sector,
-- and this is its new entry.
pub record IsRenaming (p : Pack) (old new : Path) (plan : Renaming) : Type 0 where
  pub found : IsAtPath p old plan.found
  pub ordinary : IsOrdinary plan.found.file.fid
  pub leader : place (sights p) plan.found.file.fid 0 ≡ Some plan.leader_at
  pub entry : PlansPath p (line.Rename old new) new plan.entry

-- ---- the steps of a rename
-- the entry that goes, and the one that comes
abbrev pub changed_entry : Renaming → List Operation
changed_entry plan = leave plan.found.dir.fid plan.found.name ∷ enter plan.entry.dir.fid plan.entry.name plan.found.file.fid ∷ []

-- before them pages of directories, and the name in the leader
abbrev pub renamed : Renaming → List Operation
renamed plan = first_widenings plan.entry ++ title plan.found.file.fid plan.entry.name ∷ changed_entry plan

-- The directory stands and has the entry of a file that isn't a system file, the first under this name.
pub record MayLeave (p : Pack) (found : Found) : Type 0 where
  pub no_system : is_system found.file.fid ≡ false
  pub dir : DirStands p found.dir
  pub entered : IsEntered (read_as p) found.dir.fid found.name found.file.fid

-- And the file's leader is in this sector; the new directory stands, has no entry of its new stored name, and has room for one.
pub record MayChange (p : Pack) (plan : Renaming) : Type 0 where
  pub leaves : MayLeave p plan.found
  pub ordinary : IsOrdinary plan.found.file.fid
  pub leader : place (sights p) plan.found.file.fid 0 ≡ Some plan.leader_at
  pub dir : DirStands p plan.entry.dir
  pub stored : is_stored_name plan.entry.name ≡ true
  pub absent : exact plan.entry.name (dir_items (read_as p) plan.entry.dir.fid) ≡ None
  pub room : entry_length (length plan.entry.name) ≤ largest_run (dir_items (read_as p) plan.entry.dir.fid)
  pub enterable : IsEnterable plan.entry.dir.fid plan.found.file.fid

-- The same, but that the new directory has room after the widenings that are planned, in these sectors; and the file stands.
pub record MayRename (p : Pack) (plan : Renaming) (fresh : List ℕ) : Type 0 where
  pub file : FileStands p plan.found.file
  pub ordinary : IsOrdinary plan.found.file.fid
  pub leaves : MayLeave p plan.found
  pub leader : place (sights p) plan.found.file.fid 0 ≡ Some plan.leader_at
  pub widens : MayWidenFirst p plan.entry fresh
  pub planned : first_widenings plan.entry ≡ widenings (read_as p) plan.entry.dir.fid plan.entry.name
  pub takes : TakesName p plan.entry.dir.fid plan.entry.name plan.found.file.fid

-- ---- the steps of a copy
-- the new file with its entry, and then its bytes and its date, if it gets bytes
abbrev pub copied : NewEntry → Fid → List ℕ → ℕ → List Operation
copied e f bytes moment = made_entered e f moment ++ copied_ops f bytes moment

-- A new file may be made and entered in the first of these sectors; the others are for the pages that its bytes add.
pub record MayCopy (p : Pack) (k : Kept) (e : NewEntry) (bytes fresh : List ℕ) : Type 0 where
  pub makes : MayMakeEntered p k e false fresh
  pub number : length fresh ≡ pages_planned e + 2 + length bytes / 512
