use Rattle.laws_mend.proofs.inside.Freed.{directory_cut_frees}
use Rattle.laws_mend.proofs.numbers.directory_cut_frees.Goals as goal

pub returns : goal.returns
returns c = directory_cut_frees
