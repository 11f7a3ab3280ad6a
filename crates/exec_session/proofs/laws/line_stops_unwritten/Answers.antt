use Rattle.exec_session.proofs.Turning.{line_stops_unwritten}
use Rattle.exec_session.proofs.laws.line_stops_unwritten.Goals as goal

pub returns : goal.returns
returns c = line_stops_unwritten
