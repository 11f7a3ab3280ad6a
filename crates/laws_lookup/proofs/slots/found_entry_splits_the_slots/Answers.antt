use Rattle.laws_lookup.proofs.inside.Found.{found_entry_splits_the_slots}
use Rattle.laws_lookup.proofs.slots.found_entry_splits_the_slots.Goals as goal

pub returns : goal.returns
returns c = found_entry_splits_the_slots
