use Rattle.laws_operation.proofs.inside.links.FileValues.{title_keeps_links}
use Rattle.laws_operation.proofs.title.title_keeps_links.Goals as goal

pub returns : goal.returns
returns c = title_keeps_links
