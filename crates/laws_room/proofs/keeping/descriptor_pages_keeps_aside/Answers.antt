use Rattle.laws_room.proofs.inside.Kept.{descriptor_pages_keeps_aside}
use Rattle.laws_room.proofs.keeping.descriptor_pages_keeps_aside.Goals as goal

pub returns : goal.returns
returns c = descriptor_pages_keeps_aside
