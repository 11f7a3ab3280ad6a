use Rattle.laws_steps.proofs.inside.Absent.{absent_name_stays_absent}
use Rattle.laws_steps.proofs.names.absent_name_stays_absent.Goals as goal

pub returns : goal.returns
returns c = absent_name_stays_absent
