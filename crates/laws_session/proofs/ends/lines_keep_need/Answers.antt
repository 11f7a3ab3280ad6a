use Rattle.laws_session.proofs.inside.Needing.{lines_keep_need}
use Rattle.laws_session.proofs.ends.lines_keep_need.Goals as goal

pub returns : goal.returns
returns c = lines_keep_need
