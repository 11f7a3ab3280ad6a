-- From a line on files that isn't refused to what the laws of lines and of operations ask for.
use Rattle.std.specs.Prelude.{◌≡◌, ◌≤◌, ◌⊎◌, ℕ, ◌+◌, true, false, List, length, Some, None}
use Rattle.laws_line.specs.alto_words.specs.declared.fid.Fid.{Fid}
use Rattle.laws_line.specs.alto_words.specs.declared.wanted.Wanted.{Wanted}
use Rattle.laws_line.specs.alto_words.specs.declared.wanted.Wanted.TheVariants.{Exact, Newest}
use Rattle.laws_line.specs.alto_words.specs.Fid.{is_directory, is_full_name, is_system, serial_of, sys_dir}
use Rattle.laws_line.specs.alto_words.specs.Names.{is_stored_name}
use Rattle.laws_line.specs.disk_records.specs.Packs.{Pack}
use Rattle.laws_line.specs.pack_model.specs.operations.Committing.{pages_for_operations}
use Rattle.laws_line.specs.pack_model.specs.operations.Rooms.{largest_run}
use Rattle.laws_line.specs.pack_model.specs.operations.Step.{Operation}
use Rattle.laws_line.specs.pack_model.specs.reading.Files.{file_bytes, lives}
use Rattle.laws_line.specs.pack_model.specs.reading.Model.{Model, dir_items, read_as, room}
use Rattle.laws_line.specs.pack_model.specs.reading.Sights.{sights}
use Rattle.laws_line.specs.pack_model.specs.reading.Slots.{entry_length}
use Rattle.laws_line.specs.pack_model.specs.reading.Versions.{exact}
use Rattle.laws_line.specs.pack_model.specs.states.InUse.{free_sector_count}
use Rattle.laws_line.specs.pack_model.specs.states.Sound.{Sound}
use Rattle.laws_line.specs.pack_model.specs.states.Whole.{Whole}
use Rattle.laws_line.specs.laws_operation.specs.ByteLaws.{IsOrdinary}
use Rattle.laws_line.specs.laws_operation.specs.EntryLaws.{HasName, IsOpenTo}
use Rattle.laws_lookup.specs.DropLaws.{HasDrop, IsBare}
use Rattle.laws_lookup.specs.EnteringLaws.{IsEnterable}
use Rattle.laws_line.specs.Ready.{steps_of}
use Rattle.laws_line.specs.SoundLines.{IsKindOfLine}
use Rattle.session_model.specs.exec_words.specs.declared.line.Line.{Line}
use Rattle.session_model.specs.exec_words.specs.declared.line.Line.TheVariants as line
use Rattle.session_model.specs.exec_words.specs.declared.line.Path.{Path}
use Rattle.session_model.specs.exec_words.specs.declared.line.Target.{Target}
use Rattle.session_model.specs.exec_words.specs.declared.line.Target.TheVariants.{ByPath}
use Rattle.session_model.specs.exec_words.specs.declared.reply.Refusal.TheVariants as refusal_of
use Rattle.session_model.specs.Effects.{effect, listed_dir, next_directory, next_file, widenings}
use Rattle.session_model.specs.world_model.specs.StateFiles.{state_length}
use Rattle.session_model.specs.Finding.{file_at, is_there, name_given, own_name, the_dir, the_file}
use Rattle.session_model.specs.Replies.{ops, refusal}
use Rattle.session_model.specs.Worlds.{World}
use Rattle.laws_session.specs.ZoneLaws.{HasMemory}

-- ---- any line
-- it isn't refused on what the pack is read as
abbrev pub IsUnrefused : Pack → World → Line → Type 0
IsUnrefused p w l = refusal l (read_as p) w ≡ None

-- its operations there
abbrev pub ops_on : Pack → World → Line → List Operation
ops_on p w l = ops l (read_as p) w

-- Its operations are those of its effect, and there are as many free sectors as they add pages.
pub record HasItsPages (p : Pack) (w : World) (l : Line) : Type 0 where
  pub done : ops_on p w l ≡ (effect l (read_as p) w).ops
  pub pages : pages_for_operations (read_as p) (ops_on p w l) ≤ free_sector_count (sights p)

-- so it is of each line that isn't refused
abbrev pub UnrefusedLinesHaveTheirPages : Type 0
UnrefusedLinesHaveTheirPages = (p : Pack) (w : World) (l : Line) → Whole p → IsUnrefused p w l → HasItsPages p w l

-- ---- a file is changed
-- The operand means a living file, which is no directory and isn't DiskDescriptor; the line's operations on it are a line.
pub record HasFile (p : Pack) (w : World) (l : Line) (target : Target) : Type 0 where
  pub found : file_at (read_as p) target ≡ Some (the_file (read_as p) target)
  pub file : IsOrdinary (the_file (read_as p) target)
  pub living : lives (sights p) (the_file (read_as p) target) ≡ true
  pub is_line : IsKindOfLine (read_as p) (ops_on p w l)

-- the file has so many bytes at least
abbrev pub Reaches : Pack → Target → ℕ → Type 0
Reaches p target n = n ≤ length (file_bytes (sights p) (the_file (read_as p) target))

abbrev pub AppendMayBegin : Type 0
AppendMayBegin = (p : Pack) (w : World) (file : Target) (bytes : List ℕ) → Sound p → IsUnrefused p w (line.Append file bytes) → HasFile p w (line.Append file bytes) file

-- the bytes are put within the file
abbrev pub PatchMayBegin : Type 0
PatchMayBegin = (p : Pack) (w : World) (file : Target) (offset : ℕ) (bytes : List ℕ) → Sound p → IsUnrefused p w (line.Patch file offset bytes)
    → HasFile p w (line.Patch file offset bytes) file × Reaches p file (offset + length bytes)

-- and no more bytes are kept than there are
abbrev pub CutMayBegin : Type 0
CutMayBegin = (p : Pack) (w : World) (file : Target) (n : ℕ) → Sound p → IsUnrefused p w (line.Cut file n) → HasFile p w (line.Cut file n) file × Reaches p file n

-- ---- a file goes
-- A living file that isn't a system file and has no entries of its own, with the sectors of its pages; the line's operations are a line.
pub record DropsFile (p : Pack) (w : World) (l : Line) (f : Fid) : Type 0 where
  pub living : lives (sights p) f ≡ true
  pub no_system : is_system f ≡ false
  pub bare : IsBare p f
  pub drop : HasDrop p f
  pub is_line : IsKindOfLine (read_as p) (ops_on p w l)

abbrev pub DeleteMayBegin : Type 0
DeleteMayBegin = (p : Pack) (w : World) (path : Path) → Sound p → IsUnrefused p w (line.Delete path)
    → HasFile p w (line.Delete path) (ByPath path) × DropsFile p w (line.Delete path) (the_file (read_as p) (ByPath path))

abbrev pub RemoveDirMayBegin : Type 0
RemoveDirMayBegin = (p : Pack) (w : World) (name : List ℕ) → Sound p → IsUnrefused p w (line.RemoveDir name)
    → (is_directory (listed_dir (read_as p) (Some name)) ≡ true) × DropsFile p w (line.RemoveDir name) (listed_dir (read_as p) (Some name))

-- ---- a new name
-- a name with a stated version is a stored one, as each value of the type `Name` is
abbrev pub StatesStored : Wanted → Type 0
StatesStored (Exact name) = is_stored_name name ≡ true
StatesStored (Newest base) = Unit {0}

-- A living directory in which no entry has this stored name, which is open to the file; an entry of it can stand there, and has room after
-- the widenings.
pub record TakesName (p : Pack) (d : Fid) (name : List ℕ) (f : Fid) : Type 0 where
  pub directory : is_directory d ≡ true
  pub living : lives (sights p) d ≡ true
  pub stored : is_stored_name name ≡ true
  pub absent : exact name (dir_items (read_as p) d) ≡ None
  pub free : IsOpenTo (read_as p) d f name
  pub enterable : IsEnterable d f
  pub place : entry_length (length name) ≤ largest_run (dir_items (steps_of (read_as p) (widenings (read_as p) d name)) d)

-- ---- a file comes
-- A full name that can be given, whose serial comes after the last one, and which no living file has; its entry; the line's operations are
-- a line.
pub record MakesFile (p : Pack) (w : World) (l : Line) (d : Fid) (name : List ℕ) (f : Fid) : Type 0 where
  pub full_name : is_full_name f ≡ true
  pub next : serial_of f ≡ (read_as p).last + 1
  pub fresh : lives (sights p) f ≡ false
  pub no_system : is_system f ≡ false
  pub entry : TakesName p d name f
  pub is_line : IsKindOfLine (read_as p) (ops_on p w l)

abbrev pub MakeMayBegin : Type 0
MakeMayBegin = (p : Pack) (w : World) (path : Path) → Sound p → StatesStored path.wanted → IsUnrefused p w (line.Make path)
    → MakesFile p w (line.Make path) (the_dir (read_as p) path) (name_given (read_as p) path) (next_file (read_as p))

-- and the file that is copied is an ordinary one
abbrev pub CopyMayBegin : Type 0
CopyMayBegin = (p : Pack) (w : World) (file : Target) (path : Path) → Sound p → StatesStored path.wanted → IsUnrefused p w (line.Copy file path)
    → HasFile p w (line.Copy file path) file × MakesFile p w (line.Copy file path) (the_dir (read_as p) path) (name_given (read_as p) path) (next_file (read_as p))

abbrev pub MakeDirMayBegin : Type 0
MakeDirMayBegin = (p : Pack) (w : World) (name : List ℕ) → Sound p → IsUnrefused p w (line.MakeDir name)
    → MakesFile p w (line.MakeDir name) sys_dir name (next_directory (read_as p))

-- ---- a world is written
-- the file has no byte, or as many as that of a world
abbrev pub TakesWorld : Pack → Fid → Type 0
TakesWorld p f = (length (file_bytes (sights p) f) ≡ 0) ⊎ (length (file_bytes (sights p) f) ≡ state_length)

-- The operations are a line. The file that the path means is a living ordinary one that takes a world; where the path means none, a new
-- file comes.
pub record WritesWorld (p : Pack) (w : World) (path : Path) : Type 0 where
  pub is_line : IsKindOfLine (read_as p) (ops_on p w (line.OutLoad path))
  pub over : is_there (read_as p) path ≡ true → HasFile p w (line.OutLoad path) (ByPath path)
  pub size : is_there (read_as p) path ≡ true → TakesWorld p (the_file (read_as p) (ByPath path))
  pub new : is_there (read_as p) path ≡ false → MakesFile p w (line.OutLoad path) (the_dir (read_as p) path) (name_given (read_as p) path) (next_file (read_as p))

abbrev pub OutLoadMayBegin : Type 0
OutLoadMayBegin = (p : Pack) (w : World) (path : Path) → Sound p → HasMemory w → StatesStored path.wanted → IsUnrefused p w (line.OutLoad path) → WritesWorld p w path

-- ---- a file is renamed
-- A living ordinary file with an entry under its own name, and a directory that takes its new one; the line's operations are a line.
pub record RenamesFile (p : Pack) (w : World) (l : Line) (old new : Path) : Type 0 where
  pub file : HasFile p w l (ByPath old)
  pub named : HasName (read_as p) (the_dir (read_as p) old) (own_name (read_as p) old) (the_file (read_as p) (ByPath old))
  pub entry : TakesName p (the_dir (read_as p) new) (name_given (read_as p) new) (the_file (read_as p) (ByPath old))

abbrev pub RenameMayBegin : Type 0
RenameMayBegin = (p : Pack) (w : World) (old new : Path) → Sound p → StatesStored new.wanted → IsUnrefused p w (line.Rename old new) → RenamesFile p w (line.Rename old new) old new

-- ---- a full pack
-- a line that is refused for room asks for the pages that its operations would add, and says how many there are
abbrev pub FullAsksForItsPages : Type 0
FullAsksForItsPages = (l : Line) (m : Model) (w : World) (pages free : ℕ) → refusal l m w ≡ Some (refusal_of.Full pages free) → (pages ≡ pages_for_operations m (effect l m w).ops) × (free ≡ room m)
