use Rattle.laws_operation.proofs.put.Laws.{put_carries_out}
use Rattle.laws_operation.proofs.put.put_carries_out.Goals as goal

pub returns : goal.returns
returns c = put_carries_out
