use Rattle.laws_session.proofs.inside.Filling.{refusals_name_no_hint}
use Rattle.laws_session.proofs.calls.refusals_name_no_hint.Goals as goal

pub returns : goal.returns
returns c = refusals_name_no_hint
