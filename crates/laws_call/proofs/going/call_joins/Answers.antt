use Rattle.laws_call.proofs.inside.Going.{call_joins}
use Rattle.laws_call.proofs.going.call_joins.Goals as goal

pub returns : goal.returns
returns g c = call_joins _ _ _ _
