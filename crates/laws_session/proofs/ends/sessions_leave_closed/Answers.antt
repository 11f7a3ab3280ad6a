use Rattle.laws_session.proofs.inside.Standing.{sessions_leave_closed}
use Rattle.laws_session.proofs.ends.sessions_leave_closed.Goals as goal

pub returns : goal.returns
returns c = sessions_leave_closed
