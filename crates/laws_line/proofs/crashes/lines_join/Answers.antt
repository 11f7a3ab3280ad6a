use Rattle.laws_line.proofs.inside.Lining.{lines_join}
use Rattle.laws_line.proofs.crashes.lines_join.Goals as goal

pub returns : goal.returns
returns c = lines_join
