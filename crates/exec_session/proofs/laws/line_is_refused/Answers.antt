use Rattle.exec_session.proofs.Turning.{line_is_refused}
use Rattle.exec_session.proofs.laws.line_is_refused.Goals as goal

pub returns : goal.returns
returns c = line_is_refused
