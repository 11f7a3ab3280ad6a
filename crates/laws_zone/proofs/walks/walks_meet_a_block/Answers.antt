use Rattle.laws_zone.proofs.inside.Walks.{walks_meet_a_block}
use Rattle.laws_zone.proofs.walks.walks_meet_a_block.Goals as goal

pub returns : goal.returns
returns c = walks_meet_a_block
