use Rattle.laws_session.proofs.inside.Answering.{answers_are_turns}
use Rattle.laws_session.proofs.answers.answers_are_turns.Goals as goal

pub returns : goal.returns
returns c = answers_are_turns
