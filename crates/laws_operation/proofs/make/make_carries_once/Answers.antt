use Rattle.laws_operation.proofs.inside.links.OnceOthers.{make_carries_once}
use Rattle.laws_operation.proofs.make.make_carries_once.Goals as goal

pub returns : goal.returns
returns c = make_carries_once
