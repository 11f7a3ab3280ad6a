use Rattle.laws_session.proofs.inside.Naming.{answers_name_a_failed_hint}
use Rattle.laws_session.proofs.calls.answers_name_a_failed_hint.Goals as goal

pub returns : goal.returns
returns c = answers_name_a_failed_hint
