use Rattle.laws_mend.proofs.inside.Freed.{unused_release_frees}
use Rattle.laws_mend.proofs.numbers.unused_release_frees.Goals as goal

pub returns : goal.returns
returns c = unused_release_frees
