use Rattle.laws_lookup.proofs.inside.Misleading.{no_sector_misleads}
use Rattle.laws_lookup.proofs.hints.no_sector_misleads.Goals as goal

pub returns : goal.returns
returns c = no_sector_misleads
