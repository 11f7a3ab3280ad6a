use Rattle.laws_lookup.proofs.inside.Wanting.{held_is_the_models}
use Rattle.laws_lookup.proofs.slots.held_is_the_models.Goals as goal

pub returns : goal.returns
returns c = held_is_the_models
