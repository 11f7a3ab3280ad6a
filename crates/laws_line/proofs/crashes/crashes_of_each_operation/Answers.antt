use Rattle.laws_line.proofs.inside.crashes.Staying.{crashes_of_each_operation}
use Rattle.laws_line.proofs.crashes.crashes_of_each_operation.Goals as goal

pub returns : goal.returns
returns c = crashes_of_each_operation
