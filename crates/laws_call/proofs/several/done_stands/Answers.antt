use Rattle.laws_call.proofs.inside.Several.{done_stands}
use Rattle.laws_call.proofs.several.done_stands.Goals as goal

pub returns : goal.returns
returns g c = done_stands _
