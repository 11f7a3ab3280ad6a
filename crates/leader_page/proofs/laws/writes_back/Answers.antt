use Rattle.leader_page.proofs.Inverses.{writes_back}
use Rattle.leader_page.proofs.laws.writes_back.Goals as goal

pub returns : goal.returns
returns c = writes_back
