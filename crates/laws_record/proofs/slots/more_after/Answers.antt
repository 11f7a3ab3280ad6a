use Rattle.laws_record.proofs.inside.SlotReading.{more_after}
use Rattle.laws_record.proofs.slots.more_after.Goals as goal

pub returns : goal.returns
returns c = more_after
