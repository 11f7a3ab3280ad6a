use Rattle.laws_hint.proofs.inside.MarkedOperations.{descriptor_writes_leave_the_map}
use Rattle.laws_hint.proofs.changes.descriptor_writes_leave_the_map.Goals as goal

pub returns : goal.returns
returns c = descriptor_writes_leave_the_map
