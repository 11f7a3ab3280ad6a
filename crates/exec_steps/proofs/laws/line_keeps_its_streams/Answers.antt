use Rattle.exec_steps.proofs.Lining.{line_keeps_its_streams}
use Rattle.exec_steps.proofs.laws.line_keeps_its_streams.Goals as goal

pub returns : goal.returns
returns c = line_keeps_its_streams
