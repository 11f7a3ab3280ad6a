use Rattle.laws_operation.proofs.inside.looks.Freed.{release_takes_no_sector}
use Rattle.laws_operation.proofs.drop.release_takes_no_sector.Goals as goal

pub returns : goal.returns
returns c = release_takes_no_sector
