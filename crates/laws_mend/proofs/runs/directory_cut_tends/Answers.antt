use Rattle.laws_mend.proofs.inside.Relabelling.{directory_cut_tends}
use Rattle.laws_mend.proofs.runs.directory_cut_tends.Goals as goal

pub returns : goal.returns
returns c = directory_cut_tends
