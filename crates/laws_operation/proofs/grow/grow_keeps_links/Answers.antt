use Rattle.laws_operation.proofs.inside.links.FileGrowth.{grow_keeps_links}
use Rattle.laws_operation.proofs.grow.grow_keeps_links.Goals as goal

pub returns : goal.returns
returns c = grow_keeps_links
