use Rattle.std.proofs.Common.{◌-◌, ◌≤◌}
use Rattle.laws_zone.proofs.Walking.{Standing}
use Rattle.zones.proofs.Walks.{SoFar}
use Rattle.zones.proofs.taking.find_gap.Given as goal

abbrev pub invariant-loop-at : goal.invariant-loop-at
invariant-loop-at l = record {
  within : l.at ≤ l.top;
  stands : Standing l.top l.memory l.at (SoFar l.size l.largest);
}

abbrev pub decreases-loop-at : goal.decreases-loop-at
decreases-loop-at l = l.top - l.at
