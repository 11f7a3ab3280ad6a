use Rattle.laws_mend.proofs.inside.SystemPages.{system_name_tends}
use Rattle.laws_mend.proofs.runs.system_name_tends.Goals as goal

pub returns : goal.returns
returns c = system_name_tends
