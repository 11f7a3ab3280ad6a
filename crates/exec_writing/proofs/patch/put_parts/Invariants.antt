use Rattle.std.proofs.Common.{◌≤◌, ◌-◌, IsTrue, length}
use Rattle.disk_records.specs.Causes.{Unfailed}
use Rattle.disk_records.specs.Frames.{WritesUsable}
use Rattle.disk_records.specs.Tapes.{DiskAlone, pack}
use Rattle.exec_session.specs.Meant.{kept}
use Rattle.exec_steps.specs.Asked.{Works}
use Rattle.exec_writing.specs.Patching.{MayPatchFile}
use Rattle.exec_writing.proofs.Putting.{PutSoFar}
use Rattle.exec_writing.proofs.patch.put_parts.Given as goal

abbrev pub invariant-loop-done : goal.invariant-loop-done
invariant-loop-done g l =
    let old = g.D.Tape.tape l.fn.disk in
    let now = g.D.Tape.tape l.disk in
    record {
      within : l.done ≤ length l.bytes;
      frame : WritesUsable g.D.Tape.told old now;
      alone : DiskAlone old now;
      unfailed : Unfailed old now;
      works : Works l.fn.session l.session;
      puts : IsTrue g.D.Tape.told → MayPatchFile (pack old) l.file l.offset l.bytes → PutSoFar old now (kept l.fn.session) (kept l.session) l.file l.offset l.bytes l.done;
    }

abbrev pub decreases-loop-done : goal.decreases-loop-done
decreases-loop-done g l = length l.bytes - l.done
