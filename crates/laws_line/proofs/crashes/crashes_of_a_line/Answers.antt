use Rattle.laws_line.proofs.inside.Lining.{crashes_of_a_line}
use Rattle.laws_line.proofs.crashes.crashes_of_a_line.Goals as goal

pub returns : goal.returns
returns c = crashes_of_a_line
