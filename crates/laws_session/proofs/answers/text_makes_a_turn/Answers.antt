use Rattle.laws_session.proofs.inside.Answering.{text_makes_a_turn}
use Rattle.laws_session.proofs.answers.text_makes_a_turn.Goals as goal

pub returns : goal.returns
returns c = text_makes_a_turn
