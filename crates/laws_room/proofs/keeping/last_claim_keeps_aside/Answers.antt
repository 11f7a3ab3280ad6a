use Rattle.laws_room.proofs.inside.Kept.{last_claim_keeps_aside}
use Rattle.laws_room.proofs.keeping.last_claim_keeps_aside.Goals as goal

pub returns : goal.returns
returns c = last_claim_keeps_aside
