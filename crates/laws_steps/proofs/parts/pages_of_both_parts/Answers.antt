use Rattle.laws_steps.proofs.inside.Parts.{pages_of_both_parts}
use Rattle.laws_steps.proofs.parts.pages_of_both_parts.Goals as goal

pub returns : goal.returns
returns c = pages_of_both_parts
