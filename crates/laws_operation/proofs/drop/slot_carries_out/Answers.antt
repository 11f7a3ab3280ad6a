use Rattle.laws_operation.proofs.inside.Freeing.{slot_carries_out}
use Rattle.laws_operation.proofs.drop.slot_carries_out.Goals as goal

pub returns : goal.returns
returns c = slot_carries_out
