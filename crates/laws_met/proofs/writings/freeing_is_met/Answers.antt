use Rattle.laws_met.proofs.inside.Naming.{freeing_is_met}
use Rattle.laws_met.proofs.writings.freeing_is_met.Goals as goal

pub returns : goal.returns
returns c = freeing_is_met
