use Rattle.laws_room.proofs.inside.Kept.{copy_claim_keeps_aside}
use Rattle.laws_room.proofs.keeping.copy_claim_keeps_aside.Goals as goal

pub returns : goal.returns
returns c = copy_claim_keeps_aside
