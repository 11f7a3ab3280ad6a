use Rattle.laws_operation.proofs.inside.links.Dropping.{release_keeps_links}
use Rattle.laws_operation.proofs.drop.release_keeps_links.Goals as goal

pub returns : goal.returns
returns c = release_keeps_links
