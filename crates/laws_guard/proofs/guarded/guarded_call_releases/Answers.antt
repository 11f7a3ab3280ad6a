use Rattle.laws_guard.proofs.inside.Guarding.{guarded_call_releases}
use Rattle.laws_guard.proofs.guarded.guarded_call_releases.Goals as goal

pub returns : goal.returns
returns g c = guarded_call_releases _ _
