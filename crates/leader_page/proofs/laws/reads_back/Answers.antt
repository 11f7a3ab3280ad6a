use Rattle.leader_page.proofs.Inverses.{reads_back}
use Rattle.leader_page.proofs.laws.reads_back.Goals as goal

pub returns : goal.returns
returns c = reads_back
