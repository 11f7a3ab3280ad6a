use Rattle.laws_guard.proofs.inside.Guarding.{look_before_operates}
use Rattle.laws_guard.proofs.guarded.look_before_operates.Goals as goal

pub returns : goal.returns
returns g c = look_before_operates _ _
