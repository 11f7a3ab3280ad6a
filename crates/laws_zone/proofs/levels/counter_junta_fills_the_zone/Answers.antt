use Rattle.laws_zone.proofs.inside.Levelling.{counter_junta_fills_the_zone}
use Rattle.laws_zone.proofs.levels.counter_junta_fills_the_zone.Goals as goal

pub returns : goal.returns
returns c = counter_junta_fills_the_zone
