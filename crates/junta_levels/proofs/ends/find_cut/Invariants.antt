use Rattle.std.proofs.Common.{◌-◌, ◌≤◌}
use Rattle.zones.specs.laws_zone.proofs.Walking.{Standing}
use Rattle.junta_levels.proofs.Cuts.{NonePast}
use Rattle.junta_levels.proofs.ends.find_cut.Given as goal

abbrev pub invariant-loop-here : goal.invariant-loop-here
invariant-loop-here l = record {
  within : l.here ≤ l.top;
  first : l.here ≤ l.low;
  stands : Standing l.top l.memory l.here (NonePast l.low);
}

abbrev pub decreases-loop-here : goal.decreases-loop-here
decreases-loop-here l = l.top - l.here
