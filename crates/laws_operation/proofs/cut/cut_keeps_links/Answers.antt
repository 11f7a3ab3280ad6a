use Rattle.laws_operation.proofs.inside.links.Cutting.{cut_keeps_links}
use Rattle.laws_operation.proofs.cut.cut_keeps_links.Goals as goal

pub returns : goal.returns
returns c = cut_keeps_links
