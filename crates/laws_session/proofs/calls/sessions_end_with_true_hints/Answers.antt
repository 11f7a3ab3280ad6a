use Rattle.laws_session.proofs.inside.Calling.{sessions_end_with_true_hints}
use Rattle.laws_session.proofs.calls.sessions_end_with_true_hints.Goals as goal

pub returns : goal.returns
returns c = sessions_end_with_true_hints
