use Rattle.laws_mend.proofs.inside.Freeing.{frees_join}
use Rattle.laws_mend.proofs.numbers.frees_join.Goals as goal

pub returns : goal.returns
returns c = frees_join
