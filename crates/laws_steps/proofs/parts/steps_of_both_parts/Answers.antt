use Rattle.laws_steps.proofs.inside.Parts.{steps_of_both_parts}
use Rattle.laws_steps.proofs.parts.steps_of_both_parts.Goals as goal

pub returns : goal.returns
returns c = steps_of_both_parts
