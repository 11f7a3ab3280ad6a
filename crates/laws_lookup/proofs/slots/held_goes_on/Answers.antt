use Rattle.laws_lookup.proofs.inside.Walking.{held_goes_on}
use Rattle.laws_lookup.proofs.slots.held_goes_on.Goals as goal

pub returns : goal.returns
returns c = held_goes_on
