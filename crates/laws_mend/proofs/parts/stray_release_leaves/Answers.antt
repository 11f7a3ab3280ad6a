use Rattle.laws_mend.proofs.inside.Gone.{stray_release_leaves}
use Rattle.laws_mend.proofs.parts.stray_release_leaves.Goals as goal

pub returns : goal.returns
returns c = stray_release_leaves
