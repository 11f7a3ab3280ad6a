use Rattle.std.proofs.Common.{subst, sym}
use Rattle.zones.specs.laws_zone.specs.Filling.{IsTop}
use Rattle.exec_memory.proofs.Worlds.{top_of}
use Rattle.exec_memory.proofs.unblock.free_in.Goals as goal

pub free_block-requires-clause-top : goal.free_block-requires-clause-top
free_block-requires-clause-top c = subst IsTop (sym c.base_of-top.ensures) (top_of c.args.world.now.level c.args.world.now.memory c.requires)
