use Rattle.laws_mend.proofs.inside.Claiming.{last_claim_tends}
use Rattle.laws_mend.proofs.runs.last_claim_tends.Goals as goal

pub returns : goal.returns
returns c = last_claim_tends
