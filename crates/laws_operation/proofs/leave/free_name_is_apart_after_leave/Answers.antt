use Rattle.laws_operation.proofs.inside.looks.Left.{free_name_is_apart_after_leave}
use Rattle.laws_operation.proofs.leave.free_name_is_apart_after_leave.Goals as goal

pub returns : goal.returns
returns c = free_name_is_apart_after_leave
