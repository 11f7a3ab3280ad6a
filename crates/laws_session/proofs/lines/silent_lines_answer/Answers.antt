use Rattle.laws_session.proofs.inside.Lining.{silent_lines_answer}
use Rattle.laws_session.proofs.lines.silent_lines_answer.Goals as goal

pub returns : goal.returns
returns c = silent_lines_answer
