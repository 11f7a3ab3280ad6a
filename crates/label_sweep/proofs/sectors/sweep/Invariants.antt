use Rattle.std.proofs.Common.{◌≡◌, ◌-◌}
use Rattle.disk_records.specs.Addresses.{pages_of}
use Rattle.disk_records.specs.Causes.{Unfailed}
use Rattle.disk_records.specs.Tapes.{Looks}
use Rattle.label_sweep.proofs.Sweeping.{SweptTo}
use Rattle.label_sweep.proofs.sectors.sweep.Given as goal

abbrev pub invariant-loop-at : goal.invariant-loop-at
invariant-loop-at g l =
    let old = g.D.Tape.tape l.fn.disk in
    let now = g.D.Tape.tape l.disk in
    record {
      end : l.end ≡ pages_of old.form;
      looks : Looks g.D.Tape.told (l.at - 1) old now;
      unfailed : Unfailed old now;
      swept : SweptTo g.D.Tape.told g.V.Visit.step old l.at l.fn.visitor l.visitor;
    }
