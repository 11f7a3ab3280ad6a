use Rattle.std.proofs.Common.{◌≡◌, ◌+◌, ◌-◌, ◌*◌, ◌≤◌, IsTrue}
use Rattle.disk_records.specs.Addresses.{pages_of}
use Rattle.disk_records.specs.Causes.{Unfailed}
use Rattle.disk_records.specs.Tapes.{DiskAlone, added}
use Rattle.laws_format.specs.Preparing.{drive_pages, preparing_writes}
use Rattle.disk_descriptor.proofs.preparing.prepare.Given as goal

abbrev pub invariant-loop-at : goal.invariant-loop-at
invariant-loop-at g l =
    let old = g.D.Tape.tape l.fn.disk in
    let now = g.D.Tape.tape l.disk in
    record {
      alone : DiskAlone old now;
      unfailed : Unfailed old now;
      begins : drive_pages old.form ≤ l.at;
      end : l.at-end ≡ pages_of old.form;
      wrote : IsTrue g.D.Tape.told → added old now ≡ preparing_writes old.form l.number (drive_pages old.form) (l.at - drive_pages old.form);
      runs : IsTrue g.D.Tape.told → now.runs ≤ old.runs + 2 * (l.at - drive_pages old.form);
    }
