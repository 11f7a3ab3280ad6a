use Rattle.laws_lookup.proofs.inside.Walking.{lookup_goes_on}
use Rattle.laws_lookup.proofs.slots.lookup_goes_on.Goals as goal

pub returns : goal.returns
returns c = lookup_goes_on
