use Rattle.laws_lookup.proofs.inside.Sourcing.{found_file_stays_found_beside_slots}
use Rattle.laws_lookup.proofs.sources.found_file_stays_found_beside_slots.Goals as goal

pub returns : goal.returns
returns c = found_file_stays_found_beside_slots
