use Rattle.laws_lookup.proofs.inside.Open.{slots_stay}
use Rattle.laws_lookup.proofs.names.slots_stay.Goals as goal

pub returns : goal.returns
returns c = slots_stay
