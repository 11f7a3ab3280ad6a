use Rattle.laws_guard.proofs.inside.Guarding.{guarded_call_operates}
use Rattle.laws_guard.proofs.guarded.guarded_call_operates.Goals as goal

pub returns : goal.returns
returns g c = guarded_call_operates _ _
