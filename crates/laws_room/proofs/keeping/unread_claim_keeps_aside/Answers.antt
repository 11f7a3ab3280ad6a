use Rattle.laws_room.proofs.inside.Kept.{unread_claim_keeps_aside}
use Rattle.laws_room.proofs.keeping.unread_claim_keeps_aside.Goals as goal

pub returns : goal.returns
returns c = unread_claim_keeps_aside
