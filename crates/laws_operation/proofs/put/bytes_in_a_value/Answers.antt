use Rattle.laws_operation.proofs.inside.Wording.{bytes_in_a_value}
use Rattle.laws_operation.proofs.put.bytes_in_a_value.Goals as goal

pub returns : goal.returns
returns c = bytes_in_a_value
