use Rattle.laws_record.proofs.inside.SlotReading.{length_is_read}
use Rattle.laws_record.proofs.slots.length_is_read.Goals as goal

pub returns : goal.returns
returns c = length_is_read
