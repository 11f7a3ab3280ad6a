use Rattle.std.proofs.Common.{◌≡◌, ◌+◌, ◌-◌, ◌*◌, ◌≤◌, IsTrue, length}
use Rattle.disk_records.specs.Causes.{Unfailed}
use Rattle.disk_records.specs.Tapes.{DiskAlone, added, pack}
use Rattle.disk_descriptor.specs.Writing.{AreOwnValues}
use Rattle.disk_descriptor.proofs.Closings.{done}
use Rattle.disk_descriptor.proofs.closing.write_pages.Given as goal

abbrev pub invariant-loop-left : goal.invariant-loop-left
invariant-loop-left g l =
    let old = g.D.Tape.tape l.fn.disk in
    let now = g.D.Tape.tape l.disk in
    record {
      alone : DiskAlone old now;
      unfailed : Unfailed old now;
      within : l.left ≤ length l.pages;
      wrote : IsTrue g.D.Tape.told → added old now ≡ done old.form l.last l.table l.pages l.left;
      own : IsTrue g.D.Tape.told → AreOwnValues (pack old) l.pages (length l.pages) (added old now);
      many : IsTrue g.D.Tape.told → length (added old now) + l.left ≡ length l.pages;
      runs : IsTrue g.D.Tape.told → now.runs ≤ old.runs + 2 * (length l.pages - l.left);
    }

abbrev pub decreases-loop-left : goal.decreases-loop-left
decreases-loop-left g l = l.left
