use Rattle.laws_lookup.proofs.inside.Found.{entry_at_is_a_slot}
use Rattle.laws_lookup.proofs.slots.entry_at_is_a_slot.Goals as goal

pub returns : goal.returns
returns c = entry_at_is_a_slot
