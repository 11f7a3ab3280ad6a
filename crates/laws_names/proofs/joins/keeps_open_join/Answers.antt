use Rattle.laws_names.proofs.inside.Joining.{keeps_open_join}
use Rattle.laws_names.proofs.joins.keeps_open_join.Goals as goal

pub returns : goal.returns
returns c = keeps_open_join
