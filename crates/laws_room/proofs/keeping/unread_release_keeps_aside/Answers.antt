use Rattle.laws_room.proofs.inside.Kept.{unread_release_keeps_aside}
use Rattle.laws_room.proofs.keeping.unread_release_keeps_aside.Goals as goal

pub returns : goal.returns
returns c = unread_release_keeps_aside
