use Rattle.std.proofs.Common.{◌-◌}
use Rattle.disk_records.specs.Causes.{Unfailed}
use Rattle.disk_records.specs.Tapes.{Looks, pack}
use Rattle.file_pages.specs.Ends.{IsDataPage}
use Rattle.file_pages.proofs.ends.climb_to_end.Given as goal

abbrev pub invariant-loop-number : goal.invariant-loop-number
invariant-loop-number g l =
    let old = g.D.Tape.tape l.fn.disk in
    record {
      looks : Looks g.D.Tape.told (l.number - l.fn.from.number) old (g.D.Tape.tape l.disk);
      unfailed : Unfailed old (g.D.Tape.tape l.disk);
      page : IsDataPage g.D.Tape.told (pack old) l.fid l.number l.at l.info;
    }
