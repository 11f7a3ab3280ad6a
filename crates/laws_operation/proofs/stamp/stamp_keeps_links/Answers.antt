use Rattle.laws_operation.proofs.inside.links.FileValues.{stamp_keeps_links}
use Rattle.laws_operation.proofs.stamp.stamp_keeps_links.Goals as goal

pub returns : goal.returns
returns c = stamp_keeps_links
