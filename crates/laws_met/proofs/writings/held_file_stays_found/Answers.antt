use Rattle.laws_met.proofs.inside.Dropping.{held_file_stays_found}
use Rattle.laws_met.proofs.writings.held_file_stays_found.Goals as goal

pub returns : goal.returns
returns c = held_file_stays_found
