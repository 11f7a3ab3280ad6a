use Rattle.std.proofs.Common.{◌≡◌, ◌-◌, length}
use Rattle.disk_records.specs.Addresses.{pages_of}
use Rattle.disk_records.specs.Causes.{Unfailed}
use Rattle.disk_records.specs.Tapes.{Looks}
use Rattle.scav_table.proofs.Filling.{SeenTo}
use Rattle.scav_table.proofs.fill.fill.Given as goal

abbrev pub invariant-loop-at : goal.invariant-loop-at
invariant-loop-at g l =
    let old = g.D.Tape.tape l.fn.disk in
    let now = g.D.Tape.tape l.disk in
    record {
      end : l.end ≡ pages_of old.form;
      looks : Looks g.D.Tape.told (l.at - 1) old now;
      unfailed : Unfailed old now;
      seen : SeenTo g.D.Tape.told old (length l.window) l.above l.at l.bad l.window;
    }
