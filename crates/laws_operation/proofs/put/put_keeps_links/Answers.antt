use Rattle.laws_operation.proofs.inside.links.FileValues.{put_keeps_links}
use Rattle.laws_operation.proofs.put.put_keeps_links.Goals as goal

pub returns : goal.returns
returns c = put_keeps_links
