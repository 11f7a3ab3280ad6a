use Rattle.laws_session.proofs.inside.Answering.{text_breaks_off}
use Rattle.laws_session.proofs.answers.text_breaks_off.Goals as goal

pub returns : goal.returns
returns c = text_breaks_off
