use Rattle.laws_operation.proofs.inside.links.DirValues.{leave_keeps_links}
use Rattle.laws_operation.proofs.leave.leave_keeps_links.Goals as goal

pub returns : goal.returns
returns c = leave_keeps_links
