use Rattle.exec_session.proofs.Turning.{line_leaves_another_world}
use Rattle.exec_session.proofs.laws.line_leaves_another_world.Goals as goal

pub returns : goal.returns
returns c = line_leaves_another_world
