use Rattle.laws_line.proofs.inside.crashes.Cutting.{crashes_of_an_operation}
use Rattle.laws_line.proofs.crashes.crashes_of_an_operation.Goals as goal

pub returns : goal.returns
returns c = crashes_of_an_operation
