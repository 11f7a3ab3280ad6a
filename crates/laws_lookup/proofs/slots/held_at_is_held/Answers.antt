use Rattle.laws_lookup.proofs.inside.Wanting.{held_at_is_held}
use Rattle.laws_lookup.proofs.slots.held_at_is_held.Goals as goal

pub returns : goal.returns
returns c = held_at_is_held
