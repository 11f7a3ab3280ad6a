use Rattle.laws_mend.proofs.inside.Freed.{stray_release_frees}
use Rattle.laws_mend.proofs.numbers.stray_release_frees.Goals as goal

pub returns : goal.returns
returns c = stray_release_frees
