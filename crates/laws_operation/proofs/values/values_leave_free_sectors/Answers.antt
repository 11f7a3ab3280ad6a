use Rattle.laws_operation.proofs.inside.looks.Freed.{values_leave_free_sectors}
use Rattle.laws_operation.proofs.values.values_leave_free_sectors.Goals as goal

pub returns : goal.returns
returns c = values_leave_free_sectors
