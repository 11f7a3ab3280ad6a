use Rattle.std.proofs.Common.{subst, sym}
use Rattle.zones.specs.laws_zone.specs.Filling.{IsTop}
use Rattle.zones.specs.laws_zone.proofs.levels.Laws.{bases_end_zones}
use Rattle.junta_levels.proofs.tests.unblock.Goals as goal

pub free_block-requires-clause-top : goal.free_block-requires-clause-top
free_block-requires-clause-top c = subst IsTop (sym c.base_of.ensures) (bases_end_zones c.args.level c.requires.most)
