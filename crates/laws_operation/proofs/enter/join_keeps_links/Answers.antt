use Rattle.laws_operation.proofs.inside.links.DirValues.{join_keeps_links}
use Rattle.laws_operation.proofs.enter.join_keeps_links.Goals as goal

pub returns : goal.returns
returns c = join_keeps_links
