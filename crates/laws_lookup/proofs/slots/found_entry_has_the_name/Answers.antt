use Rattle.laws_lookup.proofs.inside.Found.{found_entry_has_the_name}
use Rattle.laws_lookup.proofs.slots.found_entry_has_the_name.Goals as goal

pub returns : goal.returns
returns c = found_entry_has_the_name
