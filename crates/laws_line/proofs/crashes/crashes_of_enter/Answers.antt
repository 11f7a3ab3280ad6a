use Rattle.laws_line.proofs.inside.crashes.Cutting.{crashes_of_enter}
use Rattle.laws_line.proofs.crashes.crashes_of_enter.Goals as goal

pub returns : goal.returns
returns c = crashes_of_enter
