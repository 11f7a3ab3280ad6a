use Rattle.std.proofs.Common.{◌≤◌, ◌-◌, length}
use Rattle.dir_slots.specs.declared.others.Passing.{Passing}
use Rattle.dir_slots.specs.Judged.{MayPass, TellsByKey}
use Rattle.dir_slots.proofs.judged.keyed_end.Given as goal

abbrev pub invariant-loop-at : goal.invariant-loop-at
invariant-loop-at l = record {
  on : l.from ≤ l.at;
  within : l.at ≤ length l.page;
  passes : (passing : Passing) → TellsByKey passing.name l.wanted → MayPass passing l.page l.from l.at;
}

abbrev pub decreases-loop-at : goal.decreases-loop-at
decreases-loop-at l = length l.page - l.at
