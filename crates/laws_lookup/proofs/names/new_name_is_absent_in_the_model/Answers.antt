use Rattle.laws_lookup.proofs.inside.Newer.{new_name_is_absent_in_the_model}
use Rattle.laws_lookup.proofs.names.new_name_is_absent_in_the_model.Goals as goal

pub returns : goal.returns
returns c = new_name_is_absent_in_the_model
