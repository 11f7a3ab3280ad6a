use Rattle.laws_session.proofs.inside.Talking.{histories_are_shown}
use Rattle.laws_session.proofs.histories.histories_are_shown.Goals as goal

pub returns : goal.returns
returns c = histories_are_shown
