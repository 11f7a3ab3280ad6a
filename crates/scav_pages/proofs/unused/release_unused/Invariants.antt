use Rattle.disk_records.specs.Causes.{Unfailed}
use Rattle.disk_records.specs.Frames.{WritesUsable}
use Rattle.scav_pages.proofs.Ahead.{ahead}
use Rattle.scav_pages.proofs.Using.{UsedPass}
use Rattle.scav_pages.proofs.unused.release_unused.Given as goal

abbrev pub invariant-loop-row : goal.invariant-loop-row
invariant-loop-row g l =
    let old = g.D.Tape.tape l.fn.disk in
    let now = g.D.Tape.tape l.disk in
    record {
      pass : UsedPass g.D.Tape.told old now l.table l.pass l.walk l.unused;
      unfailed : Unfailed old now;
      frame : WritesUsable g.D.Tape.told old now;
    }

abbrev pub decreases-loop-row : goal.decreases-loop-row
decreases-loop-row g l = ahead l.pass.last
