use Rattle.std.proofs.Common.{◌≡◌}
use Rattle.test_packs.specs.Samples.{blank_sectors}
use Rattle.test_packs.proofs.sectors.free_sectors.Given as goal

abbrev pub invariant-loop-at : goal.invariant-loop-at
invariant-loop-at l = l.sectors.items ≡ blank_sectors l.at
