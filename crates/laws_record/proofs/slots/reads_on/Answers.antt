use Rattle.laws_record.proofs.inside.SlotReading.{reads_on}
use Rattle.laws_record.proofs.slots.reads_on.Goals as goal

pub returns : goal.returns
returns c = reads_on
