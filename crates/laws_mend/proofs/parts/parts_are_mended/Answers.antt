use Rattle.laws_mend.proofs.inside.PartsMended.{parts_are_mended}
use Rattle.laws_mend.proofs.parts.parts_are_mended.Goals as goal

pub returns : goal.returns
returns c = parts_are_mended
