use Rattle.laws_call.proofs.inside.Several.{done_misled_before}
use Rattle.laws_call.proofs.several.done_misled_before.Goals as goal

pub returns : goal.returns
returns g c = done_misled_before _
