use Rattle.laws_midway.proofs.inside.Growing.{file_has_grown}
use Rattle.laws_midway.proofs.growing.file_has_grown.Goals as goal

pub returns : goal.returns
returns c = file_has_grown
