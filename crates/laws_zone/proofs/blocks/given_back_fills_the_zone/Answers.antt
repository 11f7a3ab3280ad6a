use Rattle.laws_zone.proofs.inside.Blocking.{given_back_fills_the_zone}
use Rattle.laws_zone.proofs.blocks.given_back_fills_the_zone.Goals as goal

pub returns : goal.returns
returns c = given_back_fills_the_zone
