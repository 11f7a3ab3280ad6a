use Rattle.laws_steps.proofs.inside.Hinting.{released_answer_misled_before}
use Rattle.laws_steps.proofs.hints.released_answer_misled_before.Goals as goal

pub returns : goal.returns
returns c = released_answer_misled_before
