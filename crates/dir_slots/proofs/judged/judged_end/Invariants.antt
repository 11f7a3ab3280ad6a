use Rattle.std.proofs.Common.{◌≤◌, ◌-◌, length}
use Rattle.dir_slots.specs.Judged.{AreKeyed, MayPass}
use Rattle.dir_slots.proofs.judged.judged_end.Given as goal

abbrev pub invariant-loop-length : goal.invariant-loop-length
invariant-loop-length l = record {
  on : l.from ≤ l.at;
  within : l.at ≤ length l.page;
  keyed : AreKeyed l.words l.keys;
  passes : MayPass l.passing l.page l.from l.at;
}

abbrev pub decreases-loop-length : goal.decreases-loop-length
decreases-loop-length l = length l.page - l.at
