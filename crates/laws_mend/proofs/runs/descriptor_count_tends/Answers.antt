use Rattle.laws_mend.proofs.inside.Relabelling.{descriptor_count_tends}
use Rattle.laws_mend.proofs.runs.descriptor_count_tends.Goals as goal

pub returns : goal.returns
returns c = descriptor_count_tends
