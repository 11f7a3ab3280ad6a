use Rattle.leader_page.proofs.Values.{value-says}
use Rattle.leader_page.proofs.laws.value_says_its_leader.Goals as goal

pub returns : goal.returns
returns c = value-says
