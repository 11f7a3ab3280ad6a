use Rattle.laws_mend.proofs.inside.Releasing.{copy_release_tends}
use Rattle.laws_mend.proofs.runs.copy_release_tends.Goals as goal

pub returns : goal.returns
returns c = copy_release_tends
