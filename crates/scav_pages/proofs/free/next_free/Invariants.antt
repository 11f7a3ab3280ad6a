use Rattle.std.proofs.Common.{◌≡◌, ℕ, ◌-◌, ◌<◌, ◌≤◌, IsTrue, false}
use Rattle.disk_records.specs.Addresses.{pages_of}
use Rattle.disk_records.specs.Causes.{Unfailed}
use Rattle.disk_records.specs.Packs.{is_free_at}
use Rattle.disk_records.specs.Tapes.{Looks, pack}
use Rattle.scav_pages.proofs.free.next_free.Given as goal

abbrev pub invariant-loop-at : goal.invariant-loop-at
invariant-loop-at g l =
    let old = g.D.Tape.tape l.fn.disk in
    let now = g.D.Tape.tape l.disk in
    record {
      end : l.end ≡ pages_of old.form;
      from : l.from ≡ l.at;
      few : l.at - l.fn.from ≤ l.end;
      looks : Looks g.D.Tape.told (l.at - l.fn.from) old now;
      unfailed : Unfailed old now;
      none : IsTrue g.D.Tape.told → (k : ℕ) → l.fn.from ≤ k → k < l.at → is_free_at (pack old) k ≡ false;
    }
