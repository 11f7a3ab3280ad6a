use Rattle.std.proofs.Common.{◌-◌, ◌≤◌}
use Rattle.laws_zone.proofs.Walking.{Standing}
use Rattle.zones.proofs.usable.inside.Given as goal

abbrev pub invariant-loop-here : goal.invariant-loop-here
invariant-loop-here l = record {
  within : l.here ≤ l.top;
  passed : l.here ≤ l.at;
  stands : Standing l.top l.memory l.here (λ before. Unit {0});
}

abbrev pub decreases-loop-here : goal.decreases-loop-here
decreases-loop-here l = l.top - l.here
