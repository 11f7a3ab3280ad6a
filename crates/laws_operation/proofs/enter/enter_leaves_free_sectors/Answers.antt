use Rattle.laws_operation.proofs.inside.looks.Freed.{enter_leaves_free_sectors}
use Rattle.laws_operation.proofs.enter.enter_leaves_free_sectors.Goals as goal

pub returns : goal.returns
returns c = enter_leaves_free_sectors
