use Rattle.std.proofs.Common.{◌≡◌, IsTrue, None, []}
use Rattle.disk_records.specs.Causes.{Unfailed}
use Rattle.disk_records.specs.Tapes.{DiskAlone, added, pack}
use Rattle.scav_table.specs.Passes.{Stands}
use Rattle.scav_pages.proofs.Ahead.{ahead}
use Rattle.scav_names.specs.Catalogues.{AreSectors}
use Rattle.scav_names.specs.Readings.{HasReadTo}
use Rattle.scav_names.proofs.read.Reading.read_rows.Given as goal

abbrev pub invariant-loop-row : goal.invariant-loop-row
invariant-loop-row g l =
    let old = g.D.Tape.tape l.fn.disk in
    let now = g.D.Tape.tape l.disk in
    record {
      alone : DiskAlone old now;
      unfailed : Unfailed old now;
      silent : IsTrue g.D.Tape.told → added old now ≡ [];
      stands : Stands g.D.Tape.told (pack now) l.table l.pass;
      read : IsTrue g.D.Tape.told → HasReadTo (pack old) None l.fn.self → HasReadTo (pack old) l.pass.last l.self;
      sectors : AreSectors old.form l.fn.self.catalogue.root_pages → AreSectors old.form l.self.catalogue.root_pages;
    }

abbrev pub decreases-loop-row : goal.decreases-loop-row
decreases-loop-row g l = ahead l.pass.last
