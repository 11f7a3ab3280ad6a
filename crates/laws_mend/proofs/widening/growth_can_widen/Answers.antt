use Rattle.laws_mend.proofs.inside.WideningWords.{growth_can_widen}
use Rattle.laws_mend.proofs.widening.growth_can_widen.Goals as goal

pub returns : goal.returns
returns c = growth_can_widen
