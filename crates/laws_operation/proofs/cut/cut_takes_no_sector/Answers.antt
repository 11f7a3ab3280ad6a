use Rattle.laws_operation.proofs.inside.looks.Freed.{cut_takes_no_sector}
use Rattle.laws_operation.proofs.cut.cut_takes_no_sector.Goals as goal

pub returns : goal.returns
returns c = cut_takes_no_sector
