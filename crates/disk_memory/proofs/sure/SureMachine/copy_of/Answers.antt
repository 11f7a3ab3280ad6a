use Rattle.std.proofs.Common.{arith}
use Rattle.std.proofs.lemmas.Grind.{common_steps}
use Rattle.disk_memory.proofs.Forming.{formed_more}
use Rattle.disk_memory.proofs.sure.SureMachine.copy_of.Goals as goal
use Rattle.disk_records.specs.Packs.{no_sector}

pub loop-sector-preserved : goal.loop-sector-preserved
loop-sector-preserved c = record {
  same = grind (arith, common_steps, c.in_ok-push.ensures.items, c.loop-sector.invariant.same, c.copy_of_one.ensures.same);
  formed = formed_more c.args.sectors.now c.loop-sector.sector-index no_sector c.loop-sector-test.true c.copy_of_one.ensures.formed c.loop-sector.invariant.formed;
}
