use Rattle.laws_contents.proofs.model.Laws.{whole_leader_is_readable}
use Rattle.laws_contents.proofs.model.whole_leader_is_readable.Goals as goal

pub returns : goal.returns
returns c = whole_leader_is_readable
