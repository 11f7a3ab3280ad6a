use Rattle.laws_operation.proofs.drop.Laws.{slot_of_a_drop_stood_before}
use Rattle.laws_operation.proofs.drop.slot_of_a_drop_stood_before.Goals as goal

pub returns : goal.returns
returns c = slot_of_a_drop_stood_before
