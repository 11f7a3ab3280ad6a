use Rattle.std.proofs.Common.{◌-◌, ◌≤◌}
use Rattle.zones.specs.laws_zone.proofs.Walking.{Standing}
use Rattle.junta_levels.proofs.LastGap.{EndsAt}
use Rattle.junta_levels.proofs.ends.last_gap_start.Given as goal

abbrev pub invariant-loop-here : goal.invariant-loop-here
invariant-loop-here l = record {
  within : l.here ≤ l.top;
  stands : Standing l.top l.memory l.here (EndsAt l.from);
}

abbrev pub decreases-loop-here : goal.decreases-loop-here
decreases-loop-here l = l.top - l.here
