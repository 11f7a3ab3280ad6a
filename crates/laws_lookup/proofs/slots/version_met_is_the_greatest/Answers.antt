use Rattle.laws_lookup.proofs.inside.Wanting.{version_met_is_the_greatest}
use Rattle.laws_lookup.proofs.slots.version_met_is_the_greatest.Goals as goal

pub returns : goal.returns
returns c = version_met_is_the_greatest
