use Rattle.laws_room.proofs.inside.Kept.{lowest_release_keeps_aside}
use Rattle.laws_room.proofs.keeping.lowest_release_keeps_aside.Goals as goal

pub returns : goal.returns
returns c = lowest_release_keeps_aside
