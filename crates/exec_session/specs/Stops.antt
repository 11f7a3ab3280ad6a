-- Why a line isn't done, by the answers of the calls that it makes.
-- How a failed call is answered is this project's choice.
use Rattle.std.specs.Prelude.{Bool, cond, Option, Some, None, Result, Ok, Err}
use Rattle.disk_records.specs.Causes.{Cause, disk, other}
use Rattle.disk_records.specs.declared.records.Place.TheVariants.{Held}
use Rattle.pack_model.specs.hints.Misled.{leader_page}
use Rattle.label_check.specs.declared.errors.LookError.{LookError}
use Rattle.label_check.specs.declared.errors.LookError.TheVariants as look
use Rattle.page_alloc.specs.declared.errors.AllocError.{AllocError}
use Rattle.page_alloc.specs.declared.errors.AllocError.TheVariants as alloc
use Rattle.page_seeking.specs.declared.refs.FileError.{FileError}
use Rattle.page_seeking.specs.declared.refs.FileError.TheVariants as file
use Rattle.page_seeking.specs.declared.refs.FileRef.{FileRef}
use Rattle.directory.specs.declared.errors.DirError.{DirError}
use Rattle.directory.specs.declared.errors.DirError.TheVariants as dir
use Rattle.directory.specs.declared.errors.ListError.{ListError}
use Rattle.directory.specs.declared.errors.ListError.TheVariants as listing
use Rattle.disk_descriptor.specs.declared.errors.DescError.{DescError}
use Rattle.disk_descriptor.specs.declared.errors.DescError.TheVariants as desc
use Rattle.disk_descriptor.specs.Writing.{data_page}
use Rattle.exec_words.specs.declared.reply.Refusal.{Refusal}
use Rattle.exec_words.specs.declared.reply.Refusal.TheVariants as refusal
use Rattle.exec_session.specs.declared.stop.Stop.{Stop}
use Rattle.exec_session.specs.declared.stop.Stop.TheVariants.{Refused, Misled, DiskFault, Memory}

abbrev pub refused : {T : Type 0} → Refusal → Result T Stop
refused r = Err (Refused r)

-- ---- by the answer of a call that reads
abbrev pub stop_of_file : FileError → Stop
stop_of_file (file.Misled place at wanted found) = Misled place at wanted found
stop_of_file (file.Beyond length) = Refused (refusal.Beyond length)
stop_of_file file.DiskFault = DiskFault
stop_of_file file.Memory = Memory

abbrev pub stop_of_dir : DirError → Stop
stop_of_dir dir.NoSuchName = Refused refusal.NoSuchName
stop_of_dir dir.NameTaken = Refused refusal.NameTaken
stop_of_dir (dir.NoSlot largest) = Refused refusal.NameTaken
stop_of_dir (dir.File fault) = stop_of_file fault

abbrev pub stop_of_list : ListError → Stop
stop_of_list (listing.File fault) = stop_of_file fault
stop_of_list listing.Memory = Memory

abbrev pub stop_of_alloc : AllocError → Stop
stop_of_alloc (alloc.Full needed free) = Refused (refusal.Full needed free)
stop_of_alloc alloc.DiskFault = DiskFault
stop_of_alloc alloc.Memory = Memory

abbrev pub stop_of_desc : DescError → Stop
stop_of_desc (desc.Spent last) = Refused (refusal.SerialsSpent last)
stop_of_desc (desc.Held at found) = Misled (Held at) at (data_page 1) found
stop_of_desc desc.DiskFault = DiskFault
stop_of_desc desc.Memory = Memory

abbrev pub stop_of_look : LookError → Stop
stop_of_look look.DiskFault = DiskFault
stop_of_look look.Memory = Memory

-- ---- by the answer of a call that writes: what was tested before the line wrote isn't refused any more
abbrev pub misfit : FileRef → Stop
misfit f = Misled (Held f.leader_at) f.leader_at (leader_page f.fid) None

abbrev pub stop_writing : FileRef → FileError → Stop
stop_writing f (file.Misled place at wanted found) = Misled place at wanted found
stop_writing f (file.Beyond length) = misfit f
stop_writing f file.DiskFault = DiskFault
stop_writing f file.Memory = Memory

abbrev pub stop_written : FileRef → Result (Unit {0}) FileError → Result (Unit {0}) Stop
stop_written f (Ok x) = Ok x
stop_written f (Err e) = Err (stop_writing f e)

abbrev pub stop_entering : FileRef → DirError → Stop
stop_entering d dir.NoSuchName = misfit d
stop_entering d dir.NameTaken = misfit d
stop_entering d (dir.NoSlot largest) = misfit d
stop_entering d (dir.File fault) = stop_writing d fault

abbrev pub stop_entered : FileRef → Result (Unit {0}) DirError → Result (Unit {0}) Stop
stop_entered d (Ok x) = Ok x
stop_entered d (Err e) = Err (stop_entering d e)

-- ---- causes
abbrev pub cause_of_stop : Stop → Cause
cause_of_stop (Refused r) = other
cause_of_stop (Misled place at wanted found) = other
cause_of_stop DiskFault = disk
cause_of_stop Memory = other

-- ---- by a test
abbrev pub refused_if : Bool → Refusal → Result (Unit {0}) Stop
refused_if b r = cond b (refused r) (Ok tt)

-- by the first of some reasons, if one holds
abbrev pub refused_for : Option Refusal → Result (Unit {0}) Stop
refused_for None = Ok tt
refused_for (Some r) = refused r
