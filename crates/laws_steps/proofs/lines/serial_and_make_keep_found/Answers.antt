use Rattle.laws_steps.proofs.inside.LineKeeping.{serial_and_make_keep_found}
use Rattle.laws_steps.proofs.lines.serial_and_make_keep_found.Goals as goal

pub returns : goal.returns
returns g c = serial_and_make_keep_found _ _ _ _
