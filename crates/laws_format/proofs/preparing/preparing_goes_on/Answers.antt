use Rattle.laws_format.proofs.inside.Preparing.{preparing_goes_on}
use Rattle.laws_format.proofs.preparing.preparing_goes_on.Goals as goal

pub returns : goal.returns
returns c = preparing_goes_on
