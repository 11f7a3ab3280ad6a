use Rattle.laws_met.proofs.inside.Naming.{naming_is_met}
use Rattle.laws_met.proofs.writings.naming_is_met.Goals as goal

pub returns : goal.returns
returns c = naming_is_met
