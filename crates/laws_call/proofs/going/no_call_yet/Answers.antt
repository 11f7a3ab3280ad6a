use Rattle.laws_call.proofs.inside.Going.{no_call_yet}
use Rattle.laws_call.proofs.going.no_call_yet.Goals as goal

pub returns : goal.returns
returns g c = no_call_yet _ _
