use Rattle.laws_session.proofs.inside.Ruling.{settled_once_is_settled}
use Rattle.laws_session.proofs.histories.settled_once_is_settled.Goals as goal

pub returns : goal.returns
returns c = settled_once_is_settled
