use Rattle.laws_zone.proofs.inside.Walks.{walks_go_on}
use Rattle.laws_zone.proofs.walks.walks_go_on.Goals as goal

pub returns : goal.returns
returns c = walks_go_on
