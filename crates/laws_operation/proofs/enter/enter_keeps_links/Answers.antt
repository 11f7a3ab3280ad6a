use Rattle.laws_operation.proofs.inside.links.Entering.{enter_keeps_links}
use Rattle.laws_operation.proofs.enter.enter_keeps_links.Goals as goal

pub returns : goal.returns
returns c = enter_keeps_links
