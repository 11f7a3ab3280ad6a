use Rattle.laws_record.proofs.inside.SlotReading.{reads_to_the_end}
use Rattle.laws_record.proofs.slots.reads_to_the_end.Goals as goal

pub returns : goal.returns
returns c = reads_to_the_end
