use Rattle.laws_lookup.proofs.inside.Open.{open_name_stays_open}
use Rattle.laws_lookup.proofs.names.open_name_stays_open.Goals as goal

pub returns : goal.returns
returns c = open_name_stays_open
