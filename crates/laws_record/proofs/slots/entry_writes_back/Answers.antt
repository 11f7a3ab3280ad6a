use Rattle.laws_record.proofs.inside.SlotWriting.{entry_writes_back}
use Rattle.laws_record.proofs.slots.entry_writes_back.Goals as goal

pub returns : goal.returns
returns c = entry_writes_back
