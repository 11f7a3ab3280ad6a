use Rattle.laws_guard.proofs.inside.Guards.{guarded_writes}
use Rattle.laws_guard.proofs.guarded.guarded_writes.Goals as goal

pub returns : goal.returns
returns g c = guarded_writes _
