use Rattle.laws_room.proofs.inside.Kept.{unused_release_keeps_aside}
use Rattle.laws_room.proofs.keeping.unused_release_keeps_aside.Goals as goal

pub returns : goal.returns
returns c = unused_release_keeps_aside
