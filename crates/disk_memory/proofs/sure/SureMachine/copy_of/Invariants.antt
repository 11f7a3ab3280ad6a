use Rattle.std.proofs.Common.{take, ◌≡◌}
use Rattle.std.specs.Prelude.{All}
use Rattle.disk_memory.proofs.sure.SureMachine.copy_of.Given as goal
use Rattle.disk_records.specs.Packs.{IsFormed}

abbrev pub invariant-loop-sector : goal.invariant-loop-sector
invariant-loop-sector l = record {
  same : l.copy.items ≡ take l.sector-index l.sectors;
  formed : All IsFormed (take l.sector-index l.sectors);
}
