use Rattle.laws_record.proofs.inside.SlotReading.{one_by_one}
use Rattle.laws_record.proofs.slots.one_by_one.Goals as goal

pub returns : goal.returns
returns c = one_by_one
