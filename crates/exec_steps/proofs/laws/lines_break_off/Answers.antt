use Rattle.exec_steps.proofs.Lining.{lines_break_off}
use Rattle.exec_steps.proofs.laws.lines_break_off.Goals as goal

pub returns : goal.returns
returns g c = lines_break_off _
