use Rattle.laws_lookup.proofs.inside.Walking.{walk_goes_on}
use Rattle.laws_lookup.proofs.slots.walk_goes_on.Goals as goal

pub returns : goal.returns
returns c = walk_goes_on
