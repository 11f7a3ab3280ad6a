use Rattle.laws_zone.proofs.inside.Blocking.{word_fills_the_zone}
use Rattle.laws_zone.proofs.blocks.word_fills_the_zone.Goals as goal

pub returns : goal.returns
returns c = word_fills_the_zone
