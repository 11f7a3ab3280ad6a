use Rattle.laws_lookup.proofs.inside.Sourcing.{found_file_stays_found}
use Rattle.laws_lookup.proofs.sources.found_file_stays_found.Goals as goal

pub returns : goal.returns
returns c = found_file_stays_found
