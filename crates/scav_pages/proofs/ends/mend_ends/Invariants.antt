use Rattle.std.proofs.Common.{◌≤◌, ◌<◌}
use Rattle.disk_records.specs.Addresses.{pages_of}
use Rattle.disk_records.specs.Causes.{Unfailed}
use Rattle.disk_records.specs.Frames.{WritesUsable}
use Rattle.disk_records.specs.Tapes.{DiskAlone, pack}
use Rattle.scav_table.specs.Passes.{Stands}
use Rattle.scav_pages.specs.Ends.{AreWithin}
use Rattle.scav_pages.specs.Walks.{sector_in_hand}
use Rattle.scav_pages.proofs.Ahead.{ahead}
use Rattle.scav_pages.proofs.EndsPass.{ClaimsTo}
use Rattle.scav_pages.proofs.ends.mend_ends.Given as goal

abbrev pub invariant-loop-row : goal.invariant-loop-row
invariant-loop-row g l =
    let old = g.D.Tape.tape l.fn.disk in
    let now = g.D.Tape.tape l.disk in
    record {
      alone : DiskAlone old now;
      unfailed : Unfailed old now;
      frame : WritesUsable g.D.Tape.told old now;
      stands : Stands g.D.Tape.told (pack now) l.table l.pass;
      first : 1 ≤ l.from;
      within : AreWithin (pages_of old.form) l.places;
      sector : sector_in_hand l.walk < pages_of old.form;
      claims : ClaimsTo g.D.Tape.told old now l.pass.last l.walk l.places l.from;
    }

abbrev pub decreases-loop-row : goal.decreases-loop-row
decreases-loop-row g l = ahead l.pass.last
