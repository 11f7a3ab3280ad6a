use Rattle.std.proofs.Common.{◌≡◌, ◌⊎◌, ℕ, ◌+◌, ◌*◌, ◌≤◌, List, IsTrue, Some}
use Rattle.dir_slots.specs.Walks.{Walked}
use Rattle.disk_records.specs.Causes.{Unfailed}
use Rattle.disk_records.specs.Packs.{carried}
use Rattle.disk_records.specs.Tapes.{Looks, pack}
use Rattle.pack_model.specs.reading.Sights.{sights}
use Rattle.pack_model.specs.states.Sentences.{EachOnce}
use Rattle.page_seeking.specs.Parts.{IsListed}
use Rattle.page_seeking.specs.Seeking.{KeepsHandy, Quick, Refused, page_number}
use Rattle.directory.specs.Found.{page_runs}
use Rattle.directory.proofs.Paging.{VisitedTo}
use Rattle.directory.proofs.Quickly.{IsAhead}
use Rattle.directory.proofs.walk.visit_slots.Given as goal

abbrev pub invariant-loop-full : goal.invariant-loop-full
invariant-loop-full g l =
    let old = g.D.Tape.tape l.fn.disk in
    let now = g.D.Tape.tape l.disk in
    record {
      unfailed : Unfailed old now;
      walks : (given : List ℕ) × Walked given l.walk;
      taken : l.walk.place + l.walk.held ≤ 256 * l.full;
      looks : Looks g.D.Tape.told (65588 * l.full) old now;
      runs : IsTrue g.D.Tape.told → now.runs ≤ old.runs + page_runs l.full;
      carries : IsTrue g.D.Tape.told → (n : ℕ) → 1 ≤ n → n ≤ l.full → (at : ℕ) × (carried (pack old) at ≡ Some (page_number l.dir.fid n));
      table : l.hints.table ≡ l.fn.hints.table;
      refused : l.fn.hints.cache.refused ≤ l.hints.cache.refused;
      handy : IsTrue g.D.Tape.told → KeepsHandy (pack old) l.fn.hints.cache l.hints.cache;
      visited : IsTrue g.D.Tape.told → EachOnce (sights (pack old)) → VisitedTo g.V.Visit.step (pack old) l.dir.fid l.full l.walk l.fn.visitor l.visitor;
      listed : 1 ≤ l.full → IsListed g.D.Tape.told (pack old) (page_number l.dir.fid l.full) l.hints.cache ⊎ Refused l.fn.hints.cache l.hints.cache;
      ahead : IsTrue g.D.Tape.told → Quick (pack old) l.dir.fid l.fn.hints.cache → IsAhead (pack old) l.dir.fid (l.full + 1) l.fn.hints.cache l.hints.cache old now;
    }
