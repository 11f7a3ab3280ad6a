use Rattle.std.proofs.Common.{◌≡◌, IsTrue, []}
use Rattle.disk_records.specs.Causes.{Unfailed}
use Rattle.disk_records.specs.Tapes.{DiskAlone, added, pack}
use Rattle.scav_table.specs.Passes.{Stands}
use Rattle.scav_pages.specs.Directories.{IsReadTo}
use Rattle.scav_pages.specs.Walks.{file_in_hand}
use Rattle.scav_pages.proofs.Ahead.{ahead}
use Rattle.scavenger.proofs.CountPass.{CountedTo}
use Rattle.scavenger.proofs.counting.count_pages.Given as goal

abbrev pub invariant-loop-row : goal.invariant-loop-row
invariant-loop-row g l =
    let old = g.D.Tape.tape l.fn.disk in
    let now = g.D.Tape.tape l.disk in
    record {
      alone : DiskAlone old now;
      unfailed : Unfailed old now;
      silent : IsTrue g.D.Tape.told → added old now ≡ [];
      stands : Stands g.D.Tape.told (pack now) l.table l.pass;
      read : IsTrue g.D.Tape.told → IsReadTo (pack old) l.pass.last l.dir;
      counted : IsTrue g.D.Tape.told → CountedTo (pack old) l.pass.last (file_in_hand l.dir.walk) l.counts;
    }

abbrev pub decreases-loop-row : goal.decreases-loop-row
decreases-loop-row g l = ahead l.pass.last
