use Rattle.laws_mend.proofs.inside.Slotting.{enters_replaces_slots}
use Rattle.laws_mend.proofs.slots.enters_replaces_slots.Goals as goal

pub returns : goal.returns
returns c = enters_replaces_slots
