-- A line in two parts.
use Rattle.std.proofs.Common.{[], arith, refl, ◌∷◌}
use Rattle.laws_steps.specs.PartLaws.{PagesOfBothParts, StepsOfBothParts}
use Rattle.laws_call.specs.pack_model.specs.operations.Step.{step}

pub steps_of_both_parts : StepsOfBothParts
steps_of_both_parts m [] more = refl
steps_of_both_parts m (o ∷ ops) more = steps_of_both_parts (step m o) ops more

pub pages_of_both_parts : PagesOfBothParts
pages_of_both_parts m [] more = omega arith
pages_of_both_parts m (o ∷ ops) more = let rest = pages_of_both_parts (step m o) ops more in omega (arith, rest)
