use Rattle.laws_mend.proofs.inside.Relabelling.{other_links_tend}
use Rattle.laws_mend.proofs.runs.other_links_tend.Goals as goal

pub returns : goal.returns
returns c = other_links_tend
