use Rattle.laws_call.proofs.inside.Going.{operation_joins}
use Rattle.laws_call.proofs.going.operation_joins.Goals as goal

pub returns : goal.returns
returns g c = operation_joins _ _ _ _
