use Rattle.laws_format.proofs.inside.Standing.{formatted_sectors_stand}
use Rattle.laws_format.proofs.formatted.formatted_sectors_stand.Goals as goal

pub returns : goal.returns
returns c = formatted_sectors_stand
