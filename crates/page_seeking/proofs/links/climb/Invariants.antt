use Rattle.std.proofs.Common.{◌-◌, ◌<◌}
use Rattle.disk_records.specs.Causes.{Unfailed}
use Rattle.disk_records.specs.Tapes.{pack}
use Rattle.page_seeking.specs.Seeking.{page_number}
use Rattle.page_seeking.specs.Inside.{Confirmed, Known, Sought}
use Rattle.page_seeking.proofs.links.climb.Given as goal

abbrev pub invariant-loop-lower : goal.invariant-loop-lower
invariant-loop-lower g l =
    let old = g.D.Tape.tape l.fn.disk in
    let now = g.D.Tape.tape l.disk in
    record {
      sought : Sought g.D.Tape.told (l.lower - l.fn.below.number) old now l.fn.cache l.cache;
      unfailed : Unfailed old now;
      known : Known g.D.Tape.told (pack old) old.form (page_number l.fid l.fn.below.number) l.fn.below.found → Known g.D.Tape.told (pack old) old.form (page_number l.fid l.lower) l.here;
      found : l.fn.below.number < l.lower → Confirmed g.D.Tape.told (page_number l.fid l.lower) old l.fn.cache l.cache l.buf l.here;
    }
