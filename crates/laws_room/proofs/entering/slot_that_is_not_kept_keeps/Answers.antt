use Rattle.laws_room.proofs.inside.RootEntries.{slot_that_is_not_kept_keeps}
use Rattle.laws_room.proofs.entering.slot_that_is_not_kept_keeps.Goals as goal

pub returns : goal.returns
returns c = slot_that_is_not_kept_keeps
