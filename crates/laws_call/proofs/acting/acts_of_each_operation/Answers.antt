use Rattle.laws_call.proofs.inside.Acting.{acts_of_each_operation}
use Rattle.laws_call.proofs.acting.acts_of_each_operation.Goals as goal

pub returns : goal.returns
returns c = acts_of_each_operation
