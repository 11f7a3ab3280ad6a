use Rattle.laws_lookup.proofs.inside.Wanting.{lookup_is_the_models}
use Rattle.laws_lookup.proofs.slots.lookup_is_the_models.Goals as goal

pub returns : goal.returns
returns c = lookup_is_the_models
