use Rattle.laws_lookup.proofs.inside.Bare.{drop_is_of_these_sectors}
use Rattle.laws_lookup.proofs.dropping.drop_is_of_these_sectors.Goals as goal

pub returns : goal.returns
returns c = drop_is_of_these_sectors
