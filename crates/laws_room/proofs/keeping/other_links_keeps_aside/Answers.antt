use Rattle.laws_room.proofs.inside.Kept.{other_links_keeps_aside}
use Rattle.laws_room.proofs.keeping.other_links_keeps_aside.Goals as goal

pub returns : goal.returns
returns c = other_links_keeps_aside
