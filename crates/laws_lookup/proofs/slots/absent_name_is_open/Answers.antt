use Rattle.laws_lookup.proofs.inside.Found.{absent_name_is_open}
use Rattle.laws_lookup.proofs.slots.absent_name_is_open.Goals as goal

pub returns : goal.returns
returns c = absent_name_is_open
