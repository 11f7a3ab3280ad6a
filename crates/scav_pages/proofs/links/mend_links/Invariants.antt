use Rattle.std.specs.Prelude.{◌≡◌, ◌<◌, ◌≤◌, IfSome, IsTrue}
use Rattle.disk_records.specs.Addresses.{pages_of}
use Rattle.disk_records.specs.Causes.{Unfailed}
use Rattle.disk_records.specs.Frames.{WritesUsable}
use Rattle.disk_records.specs.Tapes.{DiskAlone, pack}
use Rattle.laws_mend.specs.Parts.{Lasting}
use Rattle.scav_table.specs.Passes.{Stands}
use Rattle.scav_pages.specs.Links.{MendedTo, last_row}
use Rattle.scav_pages.proofs.Ahead.{ahead}
use Rattle.scav_pages.proofs.Doing.{Going}
use Rattle.scav_pages.proofs.links.mend_links.Given as goal

abbrev pub invariant-loop-row : goal.invariant-loop-row
invariant-loop-row g l =
    let old = g.D.Tape.tape l.fn.disk in
    let now = g.D.Tape.tape l.disk in
    record {
      alone : DiskAlone old now;
      unfailed : Unfailed old now;
      frame : WritesUsable g.D.Tape.told old now;
      stands : Stands g.D.Tape.told (pack now) l.table l.pass;
      last : l.pass.last ≡ last_row l.pending;
      place : IfSome l.pending (λ x. (1 ≤ x.row.at) × (x.row.at < pages_of old.form));
      going : IsTrue g.D.Tape.told → Lasting (pack old) → Going old now;
      mended : IsTrue g.D.Tape.told → Lasting (pack old) → MendedTo (pack now) l.pending;
    }

abbrev pub decreases-loop-row : goal.decreases-loop-row
decreases-loop-row g l = ahead l.pass.last
