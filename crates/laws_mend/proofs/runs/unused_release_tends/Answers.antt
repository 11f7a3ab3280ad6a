use Rattle.laws_mend.proofs.inside.Releasing.{unused_release_tends}
use Rattle.laws_mend.proofs.runs.unused_release_tends.Goals as goal

pub returns : goal.returns
returns c = unused_release_tends
