use Rattle.laws_session.proofs.inside.Lining.{broken_lines_answer}
use Rattle.laws_session.proofs.lines.broken_lines_answer.Goals as goal

pub returns : goal.returns
returns c = broken_lines_answer
