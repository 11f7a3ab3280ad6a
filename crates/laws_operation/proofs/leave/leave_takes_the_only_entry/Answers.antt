use Rattle.laws_operation.proofs.inside.looks.Left.{leave_takes_the_only_entry}
use Rattle.laws_operation.proofs.leave.leave_takes_the_only_entry.Goals as goal

pub returns : goal.returns
returns c = leave_takes_the_only_entry
