use Rattle.laws_mend.proofs.inside.RootMade.{root_is_made}
use Rattle.laws_mend.proofs.parts.root_is_made.Goals as goal

pub returns : goal.returns
returns c = root_is_made
