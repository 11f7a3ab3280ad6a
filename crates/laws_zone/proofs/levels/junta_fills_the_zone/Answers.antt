use Rattle.laws_zone.proofs.inside.Levelling.{junta_fills_the_zone}
use Rattle.laws_zone.proofs.levels.junta_fills_the_zone.Goals as goal

pub returns : goal.returns
returns c = junta_fills_the_zone
