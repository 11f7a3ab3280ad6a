use Rattle.laws_session.proofs.inside.Lining.{prefixes_answer}
use Rattle.laws_session.proofs.lines.prefixes_answer.Goals as goal

pub returns : goal.returns
returns c = prefixes_answer
