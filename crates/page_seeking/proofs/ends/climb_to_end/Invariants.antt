use Rattle.std.proofs.Common.{◌-◌, ◌<◌, ◌≡◌, IsTrue}
use Rattle.disk_records.specs.Causes.{Unfailed}
use Rattle.disk_records.specs.Tapes.{pack}
use Rattle.page_seeking.specs.Seeking.{page_number}
use Rattle.page_seeking.specs.Inside.{Confirmed, Known, Sought}
use Rattle.page_seeking.proofs.ends.climb_to_end.Given as goal

abbrev pub invariant-loop-number : goal.invariant-loop-number
invariant-loop-number g l =
    let old = g.D.Tape.tape l.fn.disk in
    let now = g.D.Tape.tape l.disk in
    record {
      sought : Sought g.D.Tape.told (l.number - l.fn.below.number) old now l.fn.cache l.cache;
      unfailed : Unfailed old now;
      known : IsTrue g.D.Tape.told → Known g.D.Tape.told (pack old) old.form (page_number l.fid l.fn.below.number) l.fn.below.found → Known g.D.Tape.told (pack old) old.form (page_number l.fid l.number) l.here;
      start : l.number ≡ l.fn.below.number → (l.here ≡ l.fn.below.found) × ((l.buf ≡ l.fn.buf) × (l.cache ≡ l.fn.cache));
      found : l.fn.below.number < l.number → Confirmed g.D.Tape.told (page_number l.fid l.number) old l.fn.cache l.cache l.buf l.here;
    }
