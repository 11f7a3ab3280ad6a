use Rattle.laws_lookup.proofs.inside.Newer.{new_name_is_absent}
use Rattle.laws_lookup.proofs.names.new_name_is_absent.Goals as goal

pub returns : goal.returns
returns c = new_name_is_absent
