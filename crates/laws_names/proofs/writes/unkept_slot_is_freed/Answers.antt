use Rattle.laws_names.proofs.inside.Freed.{unkept_slot_is_freed}
use Rattle.laws_names.proofs.writes.unkept_slot_is_freed.Goals as goal

pub returns : goal.returns
returns c = unkept_slot_is_freed
