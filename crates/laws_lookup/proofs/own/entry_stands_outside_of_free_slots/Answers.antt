use Rattle.laws_lookup.proofs.Replacing.{entry_stands_outside_of_free_slots}
use Rattle.laws_lookup.proofs.own.entry_stands_outside_of_free_slots.Goals as goal

pub returns : goal.returns
returns c = entry_stands_outside_of_free_slots
