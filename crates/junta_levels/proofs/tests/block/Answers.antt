use Rattle.std.proofs.Common.{subst, sym}
use Rattle.zones.specs.laws_zone.specs.Filling.{IsTop}
use Rattle.zones.specs.laws_zone.proofs.levels.Laws.{bases_end_zones}
use Rattle.junta_levels.proofs.tests.block.Goals as goal

pub allocate-requires-clause-top : goal.allocate-requires-clause-top
allocate-requires-clause-top c = subst IsTop (sym c.base_of.ensures) (bases_end_zones c.args.level c.requires.most)
