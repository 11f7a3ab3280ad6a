use Rattle.laws_mend.proofs.inside.Alike.{other_links_leave}
use Rattle.laws_mend.proofs.parts.other_links_leave.Goals as goal

pub returns : goal.returns
returns c = other_links_leave
