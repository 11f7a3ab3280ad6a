use Rattle.std.proofs.Common.{◌≡◌, ◌+◌, ◌≤◌, IsTrue, take}
use Rattle.disk_records.specs.Addresses.{pages_of}
use Rattle.disk_records.specs.Causes.{Unfailed}
use Rattle.disk_records.specs.Tapes.{DiskAlone, added}
use Rattle.pack_model.specs.sessions.Format.{formatted, sectors_writes}
use Rattle.disk_descriptor.proofs.formatting.format.Given as goal

abbrev pub invariant-loop-at : goal.invariant-loop-at
invariant-loop-at g l =
    let old = g.D.Tape.tape l.fn.disk in
    let now = g.D.Tape.tape l.disk in
    record {
      alone : DiskAlone old now;
      unfailed : Unfailed old now;
      end : l.at-end ≡ pages_of old.form;
      wrote : IsTrue g.D.Tape.told → added old now ≡ sectors_writes 0 (take l.at (formatted old.form l.number l.moment).sectors);
      runs : IsTrue g.D.Tape.told → now.runs ≤ old.runs + l.at;
    }
