use Rattle.laws_lookup.proofs.inside.Wanting.{greatest_is_the_models}
use Rattle.laws_lookup.proofs.slots.greatest_is_the_models.Goals as goal

pub returns : goal.returns
returns c = greatest_is_the_models
