use Rattle.laws_operation.proofs.inside.links.Widening.{widen_keeps_links}
use Rattle.laws_operation.proofs.widen.widen_keeps_links.Goals as goal

pub returns : goal.returns
returns c = widen_keeps_links
