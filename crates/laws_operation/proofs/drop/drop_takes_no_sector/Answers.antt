use Rattle.laws_operation.proofs.inside.looks.Freed.{drop_takes_no_sector}
use Rattle.laws_operation.proofs.drop.drop_takes_no_sector.Goals as goal

pub returns : goal.returns
returns c = drop_takes_no_sector
