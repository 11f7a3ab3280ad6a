use Rattle.laws_session.proofs.inside.Answering.{call_breaks_off}
use Rattle.laws_session.proofs.answers.call_breaks_off.Goals as goal

pub returns : goal.returns
returns c = call_breaks_off
