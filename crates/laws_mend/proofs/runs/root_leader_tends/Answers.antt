use Rattle.laws_mend.proofs.inside.SystemPages.{root_leader_tends}
use Rattle.laws_mend.proofs.runs.root_leader_tends.Goals as goal

pub returns : goal.returns
returns c = root_leader_tends
