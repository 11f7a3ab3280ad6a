use Rattle.std.proofs.Common.{◌≡◌}
use Rattle.std.specs.Prelude.{drop}
use Rattle.test_packs.specs.Samples.{blank_sectors, placed_all}
use Rattle.test_packs.proofs.sectors.sectors_of.Given as goal

abbrev pub invariant-loop-page : goal.invariant-loop-page
invariant-loop-page l = placed_all (drop l.page-index l.placed) l.sectors.items ≡ placed_all l.placed (blank_sectors 48)
