use Rattle.laws_mend.proofs.inside.Describing.{descriptor_count_leaves}
use Rattle.laws_mend.proofs.parts.descriptor_count_leaves.Goals as goal

pub returns : goal.returns
returns c = descriptor_count_leaves
