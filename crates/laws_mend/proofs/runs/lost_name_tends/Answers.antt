use Rattle.laws_mend.proofs.inside.Relabelling.{lost_name_tends}
use Rattle.laws_mend.proofs.runs.lost_name_tends.Goals as goal

pub returns : goal.returns
returns c = lost_name_tends
