use Rattle.laws_operation.proofs.inside.Wording.{label_with_another_count}
use Rattle.laws_operation.proofs.values.label_with_another_count.Goals as goal

pub returns : goal.returns
returns c = label_with_another_count
