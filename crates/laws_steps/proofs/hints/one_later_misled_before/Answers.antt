use Rattle.laws_steps.proofs.inside.Hinting.{one_later_misled_before}
use Rattle.laws_steps.proofs.hints.one_later_misled_before.Goals as goal

pub returns : goal.returns
returns c = one_later_misled_before
