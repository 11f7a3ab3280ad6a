use Rattle.laws_hint.proofs.inside.MarkedOperations.{values_leave_the_map}
use Rattle.laws_hint.proofs.changes.values_leave_the_map.Goals as goal

pub returns : goal.returns
returns c = values_leave_the_map
