use Rattle.laws_room.proofs.inside.Kept.{stray_release_keeps_aside}
use Rattle.laws_room.proofs.keeping.stray_release_keeps_aside.Goals as goal

pub returns : goal.returns
returns c = stray_release_keeps_aside
