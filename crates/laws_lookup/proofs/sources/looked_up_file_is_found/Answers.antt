use Rattle.laws_lookup.proofs.inside.Sourcing.{looked_up_file_is_found}
use Rattle.laws_lookup.proofs.sources.looked_up_file_is_found.Goals as goal

pub returns : goal.returns
returns c = looked_up_file_is_found
