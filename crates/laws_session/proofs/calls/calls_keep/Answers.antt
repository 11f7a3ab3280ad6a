use Rattle.laws_session.proofs.inside.Calling.{calls_keep}
use Rattle.laws_session.proofs.calls.calls_keep.Goals as goal

pub returns : goal.returns
returns c = calls_keep
