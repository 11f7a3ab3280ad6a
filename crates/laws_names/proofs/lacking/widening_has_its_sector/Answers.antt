use Rattle.laws_names.proofs.inside.MoreRoom.{widening_has_its_sector}
use Rattle.laws_names.proofs.lacking.widening_has_its_sector.Goals as goal

pub returns : goal.returns
returns c = widening_has_its_sector
