use Rattle.std.specs.Prelude.{◌≤◌, IsTrue, length}
use Rattle.disk_records.specs.Causes.{Unfailed}
use Rattle.disk_records.specs.Frames.{WritesUsable}
use Rattle.disk_records.specs.Tapes.{DiskAlone, pack}
use Rattle.scav_pages.proofs.Ahead.{ahead}
use Rattle.scav_table.specs.Passes.{Stands}
use Rattle.scav_names.specs.Words.{AreWordsOf}
use Rattle.scav_names.proofs.WordPass.{WordsPassed}
use Rattle.scav_names.proofs.words.write_words.Given as goal

abbrev pub invariant-loop-row : goal.invariant-loop-row
invariant-loop-row g l =
    let old = g.D.Tape.tape l.fn.disk in
    let now = g.D.Tape.tape l.disk in
    record {
      within : l.done ≤ length l.words;
      alone : DiskAlone old now;
      unfailed : Unfailed old now;
      frame : WritesUsable g.D.Tape.told old now;
      stands : Stands g.D.Tape.told (pack now) l.table l.pass;
      passed : IsTrue g.D.Tape.told → AreWordsOf (pack old) l.words → WordsPassed l.words old now l.pass.last l.done;
    }

abbrev pub decreases-loop-row : goal.decreases-loop-row
decreases-loop-row g l = ahead l.pass.last
