use Rattle.laws_session.proofs.inside.Calling.{calls_keep_need}
use Rattle.laws_session.proofs.calls.calls_keep_need.Goals as goal

pub returns : goal.returns
returns c = calls_keep_need
