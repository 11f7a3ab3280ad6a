use Rattle.laws_mend.proofs.inside.Completed.{last_claim_leaves}
use Rattle.laws_mend.proofs.parts.last_claim_leaves.Goals as goal

pub returns : goal.returns
returns c = last_claim_leaves
