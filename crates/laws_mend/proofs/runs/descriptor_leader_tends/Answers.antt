use Rattle.laws_mend.proofs.inside.SystemPages.{descriptor_leader_tends}
use Rattle.laws_mend.proofs.runs.descriptor_leader_tends.Goals as goal

pub returns : goal.returns
returns c = descriptor_leader_tends
