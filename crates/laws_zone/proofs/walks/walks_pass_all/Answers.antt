use Rattle.laws_zone.proofs.inside.Walks.{walks_pass_all}
use Rattle.laws_zone.proofs.walks.walks_pass_all.Goals as goal

pub returns : goal.returns
returns c = walks_pass_all
