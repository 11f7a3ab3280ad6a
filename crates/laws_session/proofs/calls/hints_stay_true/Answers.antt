use Rattle.laws_session.proofs.inside.Calling.{hints_stay_true}
use Rattle.laws_session.proofs.calls.hints_stay_true.Goals as goal

pub returns : goal.returns
returns c = hints_stay_true
