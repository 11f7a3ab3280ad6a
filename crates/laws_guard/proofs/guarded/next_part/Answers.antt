use Rattle.laws_guard.proofs.inside.Guarding.{next_part}
use Rattle.laws_guard.proofs.guarded.next_part.Goals as goal

pub returns : goal.returns
returns c = next_part
