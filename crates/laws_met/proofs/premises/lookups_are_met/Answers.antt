use Rattle.laws_met.proofs.inside.Lookups.{lookups_are_met}
use Rattle.laws_met.proofs.premises.lookups_are_met.Goals as goal

pub returns : goal.returns
returns c = lookups_are_met
