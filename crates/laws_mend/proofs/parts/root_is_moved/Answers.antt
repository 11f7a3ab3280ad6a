use Rattle.laws_mend.proofs.inside.RootMoved.{root_is_moved}
use Rattle.laws_mend.proofs.parts.root_is_moved.Goals as goal

pub returns : goal.returns
returns c = root_is_moved
