use Rattle.laws_call.proofs.inside.Going.{line_stops}
use Rattle.laws_call.proofs.going.line_stops.Goals as goal

pub returns : goal.returns
returns g c = line_stops _ _ _ _
