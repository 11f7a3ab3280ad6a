use Rattle.laws_met.proofs.inside.Meets.{lines_of_each_kind_run}
use Rattle.laws_met.proofs.premises.lines_of_each_kind_run.Goals as goal

pub returns : goal.returns
returns c = lines_of_each_kind_run
