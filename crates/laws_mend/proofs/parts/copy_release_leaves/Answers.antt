use Rattle.laws_mend.proofs.inside.Gone.{copy_release_leaves}
use Rattle.laws_mend.proofs.parts.copy_release_leaves.Goals as goal

pub returns : goal.returns
returns c = copy_release_leaves
