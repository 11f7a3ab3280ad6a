use Rattle.laws_mend.proofs.inside.RootWidened.{root_widening_tends}
use Rattle.laws_mend.proofs.widening.root_widening_tends.Goals as goal

pub returns : goal.returns
returns c = root_widening_tends
