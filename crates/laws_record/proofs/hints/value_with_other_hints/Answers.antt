use Rattle.laws_record.proofs.inside.HintValues.{value_with_other_hints}
use Rattle.laws_record.proofs.hints.value_with_other_hints.Goals as goal

pub returns : goal.returns
returns c = value_with_other_hints
