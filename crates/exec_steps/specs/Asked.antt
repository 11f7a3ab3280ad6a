-- What is asked of the pack for each step of a line.
use Rattle.std.specs.Prelude.{◌≡◌, ◌≤◌, ◌<◌, ℕ, ◌+◌, Bool, true, false, cond, List, [], ◌∷◌, ◌++◌, length, Some, None, take}
use Rattle.alto_words.specs.declared.fid.Fid.{Fid}
use Rattle.alto_words.specs.Fid.{is_full_name, sys_dir, ordinary_fid, directory_fid}
use Rattle.alto_words.specs.Names.{is_stored_name}
use Rattle.disk_records.specs.Packs.{Pack}
use Rattle.disk_records.specs.declared.records.Place.TheVariants.{Held}
use Rattle.directory.specs.Asked.{DirStands}
use Rattle.exec_session.specs.laws_lookup.specs.EnteringLaws.{IsEnterable}
use Rattle.exec_session.specs.laws_operation.specs.ByteLaws.{IsOrdinary}
use Rattle.exec_session.specs.laws_operation.specs.EntryLaws.{IsOpenTo}
use Rattle.page_seeking.specs.Refs.{FileStands}
use Rattle.page_seeking.specs.Seeking.{file_length}
use Rattle.page_seeking.specs.declared.refs.FileRef.{FileRef}
use Rattle.pack_model.specs.operations.Committing.{pages_added}
use Rattle.pack_model.specs.operations.Rooms.{largest_run}
use Rattle.pack_model.specs.operations.Step.{Operation}
use Rattle.pack_model.specs.operations.Step.Operation.{make, enter, widen, stamp}
use Rattle.pack_model.specs.reading.Files.{lives, place}
use Rattle.pack_model.specs.reading.Model.{read_as, dir_items, is_named}
use Rattle.pack_model.specs.reading.Sights.{sights}
use Rattle.pack_model.specs.reading.Slots.{entry_length}
use Rattle.pack_model.specs.reading.Versions.{exact}
use Rattle.exec_session.specs.laws_line.specs.Ready.{steps_of}
use Rattle.pack_model.specs.sessions.Descriptor.{DescriptorFits}
use Rattle.pack_model.specs.states.Whole.{Tidy, Whole}
use Rattle.session_model.specs.Effects.{widenings}
use Rattle.session_model.specs.Keeping.{Kept}
use Rattle.session_model.specs.Refusals.{most_serials}
use Rattle.exec_session.specs.Found.{root_ref}
use Rattle.exec_steps.specs.Rooms.{widens_if}
use Rattle.exec_steps.specs.Midway.{AreFree}
use Rattle.exec_steps.specs.declared.rooms.NewEntry.{NewEntry}
use Rattle.exec_session.specs.declared.session.Session.{Session}

-- ---- on every machine: what a step of a line leaves as it is
pub record Works (one two : Session) : Type 0 where
  pub shape : two.descriptor.shape ≡ one.descriptor.shape
  pub sized : length two.hints.table ≡ length one.hints.table
  pub moment : two.moment ≡ one.moment
  pub world : two.world ≡ one.world
  pub streams : two.streams ≡ one.streams
  pub need : two.need ≡ one.need
  pub refused : one.hints.cache.refused ≤ two.hints.cache.refused

-- ---- on every machine: calls that change one thing of what a session keeps
abbrev pub IsSameButTable : Session → Session → Type 0
IsSameButTable one two = two ≡ record one { hints = record { cache = one.hints.cache; table = two.hints.table } }

abbrev pub IsSameButMark : Session → Session → Type 0
IsSameButMark one two = two ≡ record one { descriptor = record one.descriptor { mark = two.descriptor.mark } }

-- ---- files by the addresses that a line holds
abbrev pub new_ref : Fid → ℕ → FileRef
new_ref f at = record { fid = f; leader_at = at; from = Held at }

-- ---- the operations of steps
abbrev pub to_widen : Fid → Operation
to_widen d = widen d

abbrev pub to_make : Fid → List ℕ → ℕ → Operation
to_make f name moment = make f name moment

abbrev pub to_enter : Fid → List ℕ → Fid → Operation
to_enter d name f = enter d name f

abbrev pub to_stamp : Fid → ℕ → Operation
to_stamp f moment = stamp f moment

-- ---- widenings
abbrev pub first_widenings : NewEntry → List Operation
first_widenings e = widens_if e.widens_root sys_dir ++ widens_if e.widens_dir e.dir.fid

-- SysDir and the entry's directory stand, and the sectors are free.
pub record MayWidenFirst (p : Pack) (e : NewEntry) (fresh : List ℕ) : Type 0 where
  pub root : DirStands p root_ref
  pub dir : DirStands p e.dir
  pub free : AreFree p fresh

-- ---- a new file
abbrev pub made_fid : Bool → ℕ → Fid
made_fid is_dir serial = cond is_dir (directory_fid serial) (ordinary_fid serial)

-- The pack is whole and tidy, and what is kept of DiskDescriptor fits. The next serial can be given, and no living file has its full name; the
-- name is a stored one; and two sectors are free.
pub record MayMakeNext (p : Pack) (k : Kept) (is_dir : Bool) (name fresh : List ℕ) : Type 0 where
  pub whole : Whole p
  pub tidy : Tidy p
  pub fits : DescriptorFits p k.shape k.last k.mark k.pages
  pub left : k.last < most_serials
  pub full_name : is_full_name (made_fid is_dir (k.last + 1)) ≡ true
  pub fresh_file : lives (sights p) (made_fid is_dir (k.last + 1)) ≡ false
  pub stored : is_stored_name name ≡ true
  pub free : AreFree p (take 2 fresh)

-- ---- an entry
-- The directory stands, has no entry of this stored name, and has room for one; the file lives and has no entry, may have one there, and its leader is
-- in this sector.
pub record MayEnterFile (p : Pack) (e : NewEntry) (f : Fid) (leader_at : ℕ) : Type 0 where
  pub dir : DirStands p e.dir
  pub stored : is_stored_name e.name ≡ true
  pub absent : exact e.name (dir_items (read_as p) e.dir.fid) ≡ None
  pub room : entry_length (length e.name) ≤ largest_run (dir_items (read_as p) e.dir.fid)
  pub living : lives (sights p) f ≡ true
  pub nameless : is_named (read_as p) f ≡ false
  pub enterable : IsEnterable e.dir.fid f
  pub leader : place (sights p) f 0 ≡ Some leader_at

-- ---- a new file with its entry
abbrev pub made_entered : NewEntry → Fid → ℕ → List Operation
made_entered e f moment = first_widenings e ++ make f e.name moment ∷ enter e.dir.fid e.name f ∷ []

-- The directory takes the name, after the widenings that are planned; the next full name can be given, and no living file has it; and the sectors
-- are free.
pub record MayMakeEntered (p : Pack) (k : Kept) (e : NewEntry) (is_dir : Bool) (fresh : List ℕ) : Type 0 where
  pub widens : MayWidenFirst p e fresh
  pub planned : first_widenings e ≡ widenings (read_as p) e.dir.fid e.name
  pub left : k.last < most_serials
  pub full_name : is_full_name (made_fid is_dir (k.last + 1)) ≡ true
  pub fresh_file : lives (sights p) (made_fid is_dir (k.last + 1)) ≡ false
  pub stored : is_stored_name e.name ≡ true
  pub absent : exact e.name (dir_items (read_as p) e.dir.fid) ≡ None
  pub open_name : IsOpenTo (read_as p) e.dir.fid (made_fid is_dir (k.last + 1)) e.name
  pub enterable : IsEnterable e.dir.fid (made_fid is_dir (k.last + 1))
  pub room : entry_length (length e.name) ≤ largest_run (dir_items (steps_of (read_as p) (first_widenings e)) e.dir.fid)

-- ---- bytes and dates
-- An ordinary file that was found, on a whole and tidy pack.
pub record IsFile (p : Pack) (file : FileRef) : Type 0 where
  pub stands : FileStands p file
  pub ordinary : IsOrdinary file.fid
  pub living : lives (sights p) file.fid ≡ true

-- and as many free sectors as pages come with these bytes
pub record MayGrowFile (p : Pack) (file : FileRef) (bytes fresh : List ℕ) : Type 0 where
  pub found : IsFile p file
  pub number : length fresh ≡ pages_added (file_length p file.fid) (length bytes)
  pub free : AreFree p fresh
