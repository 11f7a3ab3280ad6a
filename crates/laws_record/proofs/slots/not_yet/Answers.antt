use Rattle.laws_record.proofs.inside.SlotReading.{not_yet}
use Rattle.laws_record.proofs.slots.not_yet.Goals as goal

pub returns : goal.returns
returns c = not_yet
