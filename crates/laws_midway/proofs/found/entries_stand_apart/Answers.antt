use Rattle.laws_midway.proofs.inside.Beside.{entries_stand_apart}
use Rattle.laws_midway.proofs.found.entries_stand_apart.Goals as goal

pub returns : goal.returns
returns c = entries_stand_apart
