use Rattle.laws_session.proofs.inside.Talking.{crashes_of_a_history}
use Rattle.laws_session.proofs.histories.crashes_of_a_history.Goals as goal

pub returns : goal.returns
returns c = crashes_of_a_history
