use Rattle.laws_mend.proofs.inside.Claiming.{unread_claim_tends}
use Rattle.laws_mend.proofs.runs.unread_claim_tends.Goals as goal

pub returns : goal.returns
returns c = unread_claim_tends
