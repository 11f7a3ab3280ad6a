use Rattle.laws_midway.proofs.inside.Founding.{name_is_its_own}
use Rattle.laws_midway.proofs.found.name_is_its_own.Goals as goal

pub returns : goal.returns
returns c = name_is_its_own
