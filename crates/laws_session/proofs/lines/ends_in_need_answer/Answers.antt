use Rattle.laws_session.proofs.inside.Lining.{ends_in_need_answer}
use Rattle.laws_session.proofs.lines.ends_in_need_answer.Goals as goal

pub returns : goal.returns
returns c = ends_in_need_answer
