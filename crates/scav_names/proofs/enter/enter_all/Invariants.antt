use Rattle.std.proofs.Common.{◌≤◌, IsTrue, drop}
use Rattle.disk_records.specs.Causes.{Unfailed}
use Rattle.disk_records.specs.Frames.{WritesUsable}
use Rattle.disk_records.specs.Tapes.{DiskAlone, pack}
use Rattle.scav_names.specs.Roots.{MayBeEntered}
use Rattle.scav_names.proofs.NextEntry.{EnteredTo}
use Rattle.scav_names.proofs.enter.enter_all.Given as goal

abbrev pub invariant-loop-file : goal.invariant-loop-file
invariant-loop-file g l =
    let old = g.D.Tape.tape l.fn.disk in
    let now = g.D.Tape.tape l.disk in
    record {
      first : 1 ≤ l.root.from;
      alone : DiskAlone old now;
      unfailed : Unfailed old now;
      frame : WritesUsable g.D.Tape.told old now;
      entered : IsTrue g.D.Tape.told → MayBeEntered (pack old) l.fn.root l.files → EnteredTo old now l.root (drop l.file-index l.files);
    }
