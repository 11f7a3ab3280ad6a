use Rattle.laws_operation.proofs.inside.links.DropWhole.{drop_keeps_links}
use Rattle.laws_operation.proofs.drop.drop_keeps_links.Goals as goal

pub returns : goal.returns
returns c = drop_keeps_links
