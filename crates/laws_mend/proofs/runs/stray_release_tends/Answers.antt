use Rattle.laws_mend.proofs.inside.Releasing.{stray_release_tends}
use Rattle.laws_mend.proofs.runs.stray_release_tends.Goals as goal

pub returns : goal.returns
returns c = stray_release_tends
