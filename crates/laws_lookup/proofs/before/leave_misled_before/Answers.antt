use Rattle.laws_lookup.proofs.inside.BeforeDirs.{leave_misled_before}
use Rattle.laws_lookup.proofs.before.leave_misled_before.Goals as goal

pub returns : goal.returns
returns c = leave_misled_before
