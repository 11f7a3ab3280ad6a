use Rattle.laws_operation.proofs.inside.links.DirValues.{slot_keeps_links}
use Rattle.laws_operation.proofs.drop.slot_keeps_links.Goals as goal

pub returns : goal.returns
returns c = slot_keeps_links
