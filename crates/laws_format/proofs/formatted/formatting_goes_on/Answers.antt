use Rattle.laws_format.proofs.inside.Writes.{formatting_goes_on}
use Rattle.laws_format.proofs.formatted.formatting_goes_on.Goals as goal

pub returns : goal.returns
returns c = formatting_goes_on
