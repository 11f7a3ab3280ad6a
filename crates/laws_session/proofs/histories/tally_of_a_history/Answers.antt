use Rattle.laws_session.proofs.inside.Talking.{tally_of_a_history}
use Rattle.laws_session.proofs.histories.tally_of_a_history.Goals as goal

pub returns : goal.returns
returns c = tally_of_a_history
