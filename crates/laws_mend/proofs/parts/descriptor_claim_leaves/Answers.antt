use Rattle.laws_mend.proofs.inside.Describing.{descriptor_claim_leaves}
use Rattle.laws_mend.proofs.parts.descriptor_claim_leaves.Goals as goal

pub returns : goal.returns
returns c = descriptor_claim_leaves
