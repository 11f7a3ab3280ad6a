use Rattle.exec_session.proofs.Turning.{turned_is_a_turn}
use Rattle.exec_session.proofs.laws.turned_is_a_turn.Goals as goal

pub returns : goal.returns
returns c = turned_is_a_turn
