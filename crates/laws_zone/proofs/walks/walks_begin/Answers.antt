use Rattle.laws_zone.proofs.inside.Walks.{walks_begin}
use Rattle.laws_zone.proofs.walks.walks_begin.Goals as goal

pub returns : goal.returns
returns c = walks_begin
