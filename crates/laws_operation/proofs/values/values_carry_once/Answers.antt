use Rattle.laws_operation.proofs.inside.links.OnceOthers.{values_carry_once}
use Rattle.laws_operation.proofs.values.values_carry_once.Goals as goal

pub returns : goal.returns
returns c = values_carry_once
