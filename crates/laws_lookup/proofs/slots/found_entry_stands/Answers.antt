use Rattle.laws_lookup.proofs.inside.Found.{found_entry_stands}
use Rattle.laws_lookup.proofs.slots.found_entry_stands.Goals as goal

pub returns : goal.returns
returns c = found_entry_stands
