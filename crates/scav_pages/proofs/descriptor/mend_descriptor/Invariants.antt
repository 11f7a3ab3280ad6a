use Rattle.std.proofs.Common.{◌≤◌, IsTrue}
use Rattle.disk_records.specs.Addresses.{pages_of}
use Rattle.disk_records.specs.Causes.{Unfailed}
use Rattle.disk_records.specs.Frames.{WritesUsable}
use Rattle.disk_records.specs.Tapes.{DiskAlone, pack}
use Rattle.scav_pages.specs.Ends.{AreWithin, MayDescribe, MayDescribePage}
use Rattle.scav_pages.proofs.Doing.{Going}
use Rattle.scav_pages.proofs.descriptor.mend_descriptor.Given as goal

abbrev pub invariant-loop-number : goal.invariant-loop-number
invariant-loop-number g l =
    let old = g.D.Tape.tape l.fn.disk in
    let now = g.D.Tape.tape l.disk in
    record {
      alone : DiskAlone old now;
      unfailed : Unfailed old now;
      frame : WritesUsable g.D.Tape.told old now;
      first : 1 ≤ l.from;
      within : AreWithin (pages_of old.form) l.places;
      going : IsTrue g.D.Tape.told → MayDescribe (pack old) l.fn.places l.fn.from → Going old now;
      described : IsTrue g.D.Tape.told → MayDescribe (pack old) l.fn.places l.fn.from → MayDescribePage (pack now) l.number l.places l.from;
    }
