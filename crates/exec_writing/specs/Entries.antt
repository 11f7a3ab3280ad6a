-- New entries: what is planned for one, and by what a line is refused that makes a file for it.
use Rattle.std.specs.Prelude.{Bool, Contains, List, None, Option, Some, nat_le, nat_lt, true, ℕ, ◌+◌, ◌≡◌}
use Rattle.std.specs.Option.{option_or}
use Rattle.alto_words.specs.Fid.{is_directory, sys_dir}
use Rattle.alto_words.specs.Names.{is_stored_name}
use Rattle.alto_words.specs.declared.wanted.Wanted.{Wanted}
use Rattle.disk_records.specs.Packs.{Pack}
use Rattle.directory.specs.Asked.{DirStands}
use Rattle.exec_words.specs.declared.line.Line.{Line}
use Rattle.exec_words.specs.declared.line.Line.TheVariants as line
use Rattle.exec_words.specs.declared.line.Path.{Path}
use Rattle.exec_words.specs.declared.reply.Refusal.{Refusal}
use Rattle.exec_words.specs.declared.reply.Refusal.TheVariants as refusal
use Rattle.exec_session.specs.laws_session.specs.UnrefusedLaws.{IsUnrefused, MakesFile}
use Rattle.page_seeking.specs.declared.refs.FileRef.{FileRef}
use Rattle.pack_model.specs.reading.Files.{first}
use Rattle.pack_model.specs.reading.Model.{read_as, room}
use Rattle.session_model.specs.Effects.{effect, widenings}
use Rattle.session_model.specs.Refusals.{by_operands, most_serials, when}
use Rattle.session_model.specs.Replies.{refusal as refusal_to}
use Rattle.session_model.specs.Touched.{files_touched}
use Rattle.session_model.specs.Worlds.{World}
use Rattle.exec_session.specs.Found.{IsDirOf, root_ref}
use Rattle.exec_session.specs.NewNames.{IsGiven}
use Rattle.exec_steps.specs.Rooms.{IsPlanned, pages_planned}
use Rattle.exec_steps.specs.declared.rooms.NewEntry.{NewEntry}
use Rattle.exec_steps.specs.Asked.{first_widenings, made_entered, made_fid}

-- ---- what is planned
-- The name that a new entry gets which is wanted so in this directory is the model's, and a stored one; and the directories that get a page
-- first are the model's.
pub record IsNewEntry (p : Pack) (dir : FileRef) (w : Wanted) (e : NewEntry) : Type 0 where
  pub given : IsGiven p dir.fid w e.name
  pub stored : is_stored_name e.name ≡ true
  pub planned : IsPlanned p dir e.name e

-- no operand of the line is refused
abbrev pub OperandsPass : Pack → Line → Type 0
OperandsPass p l = first (λ r. r) (by_operands l (read_as p)) ≡ None

-- the first refusal of one
abbrev pub OperandsRefuse : Pack → Line → Refusal → Type 0
OperandsRefuse p l r = first (λ x. x) (by_operands l (read_as p)) ≡ Some r

-- The operands of a line pass, and this is the new entry of its path.
pub record PlansPath (p : Pack) (l : Line) (path : Path) (e : NewEntry) : Type 0 where
  pub passes : OperandsPass p l
  pub dir : IsDirOf p path.dir e.dir
  pub directory : is_directory e.dir.fid ≡ true
  pub entry : IsNewEntry p e.dir path.wanted e

-- The name of a new directory passes, and this is its new entry.
pub record PlansDir (p : Pack) (name : List ℕ) (e : NewEntry) : Type 0 where
  pub passes : OperandsPass p (line.MakeDir name)
  pub planned : IsPlanned p root_ref name e

-- ---- a file that comes
-- the refusal of a line that makes a file and adds so many pages, after this last serial and with so many free pages, if it has one
abbrev pub new_refusal : ℕ → ℕ → ℕ → Option Refusal
new_refusal last pages free = option_or (when (nat_le most_serials last) (refusal.SerialsSpent last)) (when (nat_lt free pages) (refusal.Full pages free))

-- The line makes a file for this entry, and does nothing else: its operations are these, and it is refused for the serial or for the room
-- alone; and where it isn't refused the file may come. It follows hints of SysDir and of the entry's directory.
pub record AddsFile (p : Pack) (w : World) (l : Line) (e : NewEntry) (of_directory : Bool) : Type 0 where
  pub dir : DirStands p e.dir
  pub planned : first_widenings e ≡ widenings (read_as p) e.dir.fid e.name
  pub ops : (effect l (read_as p) w).ops ≡ made_entered e (made_fid of_directory ((read_as p).last + 1)) w.moment
  pub world : (effect l (read_as p) w).world ≡ w
  pub refused : refusal_to l (read_as p) w ≡ new_refusal (read_as p).last (pages_planned e + 2) (room (read_as p))
  pub makes : IsUnrefused p w l → MakesFile p w l e.dir.fid e.name (made_fid of_directory ((read_as p).last + 1))
  pub root : Contains (files_touched l (read_as p) w) sys_dir
  pub own : Contains (files_touched l (read_as p) w) e.dir.fid
