use Rattle.laws_operation.proofs.inside.links.OnceOthers.{enter_carries_once}
use Rattle.laws_operation.proofs.enter.enter_carries_once.Goals as goal

pub returns : goal.returns
returns c = enter_carries_once
