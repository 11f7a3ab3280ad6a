use Rattle.laws_mend.proofs.inside.Gone.{unused_release_leaves}
use Rattle.laws_mend.proofs.parts.unused_release_leaves.Goals as goal

pub returns : goal.returns
returns c = unused_release_leaves
