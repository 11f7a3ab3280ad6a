use Rattle.laws_mend.proofs.inside.Freed.{copy_release_frees}
use Rattle.laws_mend.proofs.numbers.copy_release_frees.Goals as goal

pub returns : goal.returns
returns c = copy_release_frees
