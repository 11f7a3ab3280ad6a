use Rattle.std.proofs.Common.{ℕ, ◌+◌, ◌≤◌, IsTrue}
use Rattle.disk_records.specs.Causes.{Unfailed}
use Rattle.disk_records.specs.Tapes.{pack}
use Rattle.page_seeking.specs.Inside.{Eases, Sought}
use Rattle.page_seeking.proofs.pages.nearest_below.Given as goal

abbrev pub invariant-loop-entry : goal.invariant-loop-entry
invariant-loop-entry g l =
    let old = g.D.Tape.tape l.fn.disk in
    let now = g.D.Tape.tape l.disk in
    record {
      below : l.above ≤ l.page.number;
      fewer : l.left ≤ l.most;
      sought : Sought g.D.Tape.told l.most old now l.fn.cache l.cache;
      unfailed : Unfailed old now;
      spent : IsTrue g.D.Tape.told → now.runs + l.left ≤ old.runs + l.most;
      quick : (at : ℕ) → IsTrue g.D.Tape.told → Eases (pack old) l.page.fid l.page.number at l.fn.cache → now.runs ≤ old.runs;
    }

abbrev pub decreases-loop-entry : goal.decreases-loop-entry
decreases-loop-entry g l = l.above
