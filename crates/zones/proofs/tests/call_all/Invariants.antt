use Rattle.laws_zone.specs.world_model.specs.ZoneWords.{IsMemory}
use Rattle.zones.proofs.tests.call_all.Given as goal

abbrev pub invariant-loop-call : goal.invariant-loop-call
invariant-loop-call g l = IsMemory 40960 l.memory
