use Rattle.exec_steps.proofs.Lining.{line_stops}
use Rattle.exec_steps.proofs.laws.line_stops.Goals as goal

pub returns : goal.returns
returns c = line_stops
