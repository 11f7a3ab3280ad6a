use Rattle.exec_session.proofs.Turning.{line_writes_nothing}
use Rattle.exec_session.proofs.laws.line_writes_nothing.Goals as goal

pub returns : goal.returns
returns c = line_writes_nothing
