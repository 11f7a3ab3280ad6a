use Rattle.laws_midway.proofs.inside.Lining.{later_answer_misled_before}
use Rattle.laws_midway.proofs.lines.later_answer_misled_before.Goals as goal

pub returns : goal.returns
returns c = later_answer_misled_before
