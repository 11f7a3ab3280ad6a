use Rattle.laws_operation.proofs.inside.links.Making.{make_keeps_links}
use Rattle.laws_operation.proofs.make.make_keeps_links.Goals as goal

pub returns : goal.returns
returns c = make_keeps_links
