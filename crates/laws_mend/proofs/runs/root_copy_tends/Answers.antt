use Rattle.laws_mend.proofs.inside.SystemPages.{root_copy_tends}
use Rattle.laws_mend.proofs.runs.root_copy_tends.Goals as goal

pub returns : goal.returns
returns c = root_copy_tends
