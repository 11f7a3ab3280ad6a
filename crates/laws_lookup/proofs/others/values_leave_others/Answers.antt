use Rattle.laws_lookup.proofs.inside.LeftAlone.{values_leave_others}
use Rattle.laws_lookup.proofs.others.values_leave_others.Goals as goal

pub returns : goal.returns
returns c = values_leave_others
