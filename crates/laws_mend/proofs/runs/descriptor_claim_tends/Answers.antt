use Rattle.laws_mend.proofs.inside.Claiming.{descriptor_claim_tends}
use Rattle.laws_mend.proofs.runs.descriptor_claim_tends.Goals as goal

pub returns : goal.returns
returns c = descriptor_claim_tends
