use Rattle.laws_met.proofs.inside.Meeting.{session_closes}
use Rattle.laws_met.proofs.premises.session_closes.Goals as goal

pub returns : goal.returns
returns c = session_closes
