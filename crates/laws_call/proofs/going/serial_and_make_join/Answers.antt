use Rattle.laws_call.proofs.inside.Going.{serial_and_make_join}
use Rattle.laws_call.proofs.going.serial_and_make_join.Goals as goal

pub returns : goal.returns
returns g c = serial_and_make_join _ _ _ _
