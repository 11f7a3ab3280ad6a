use Rattle.laws_session.proofs.inside.Flushing.{ending_is_a_line}
use Rattle.laws_session.proofs.streams.ending_is_a_line.Goals as goal

pub returns : goal.returns
returns c = ending_is_a_line
