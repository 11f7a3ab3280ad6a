use Rattle.zones.specs.world_model.specs.Levels.{IsAtLevel}
use Rattle.junta_levels.proofs.tests.call_all.Given as goal

abbrev pub invariant-loop-call : goal.invariant-loop-call
invariant-loop-call g l = IsAtLevel l.level l.memory
