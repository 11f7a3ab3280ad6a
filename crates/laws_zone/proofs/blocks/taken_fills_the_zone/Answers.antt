use Rattle.laws_zone.proofs.inside.Blocking.{taken_fills_the_zone}
use Rattle.laws_zone.proofs.blocks.taken_fills_the_zone.Goals as goal

pub returns : goal.returns
returns c = taken_fills_the_zone
