use Rattle.std.specs.Prelude.{◌≡◌, ◌-◌, ◌≤◌, IsTrue, Some, length}
use Rattle.disk_records.specs.Packs.{carried}
use Rattle.disk_records.specs.Causes.{Unfailed}
use Rattle.disk_records.specs.Frames.{WritesUsable}
use Rattle.disk_records.specs.Tapes.{DiskAlone, pack}
use Rattle.scav_pages.specs.Links.{WritesPage}
use Rattle.scav_pages.specs.Walks.{IsSeated}
use Rattle.scav_names.proofs.PageWriting.{WordsTo}
use Rattle.scav_names.proofs.words.write_in_page.Given as goal

abbrev pub invariant-loop-more : goal.invariant-loop-more
invariant-loop-more g l =
    let old = g.D.Tape.tape l.fn.disk in
    let now = g.D.Tape.tape l.disk in
    record {
      done : l.done ≤ l.more;
      within : l.more ≤ length l.words;
      alone : DiskAlone old now;
      unfailed : Unfailed old now;
      frame : WritesUsable g.D.Tape.told old now;
      wrote : IsTrue g.D.Tape.told → carried (pack old) l.row.at ≡ Some l.row.page → WritesPage l.row.at l.row.page (pack old) (pack now);
      words : IsTrue g.D.Tape.told → IsSeated (pack old) l.row → WordsTo l.words l.done l.row old now l.more;
    }

abbrev pub decreases-loop-more : goal.decreases-loop-more
decreases-loop-more g l = length l.words - l.more
