use Rattle.laws_session.proofs.inside.Leaving.{lines_leave_a_memory}
use Rattle.laws_session.proofs.zones.lines_leave_a_memory.Goals as goal

pub returns : goal.returns
returns c = lines_leave_a_memory
