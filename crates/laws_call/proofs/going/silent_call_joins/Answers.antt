use Rattle.laws_call.proofs.inside.Going.{silent_call_joins}
use Rattle.laws_call.proofs.going.silent_call_joins.Goals as goal

pub returns : goal.returns
returns g c = silent_call_joins _ _ _ _
