use Rattle.exec_steps.proofs.Lining.{line_is_done}
use Rattle.exec_steps.proofs.laws.line_is_done.Goals as goal

pub returns : goal.returns
returns c = line_is_done
