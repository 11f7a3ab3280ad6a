use Rattle.laws_mend.proofs.inside.Shortened.{directory_cut_leaves}
use Rattle.laws_mend.proofs.parts.directory_cut_leaves.Goals as goal

pub returns : goal.returns
returns c = directory_cut_leaves
