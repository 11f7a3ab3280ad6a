use Rattle.laws_lookup.proofs.inside.Newer.{slots_have_stored_names}
use Rattle.laws_lookup.proofs.names.slots_have_stored_names.Goals as goal

pub returns : goal.returns
returns c = slots_have_stored_names
