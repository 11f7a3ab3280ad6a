use Rattle.laws_contents.proofs.model.Laws.{leader_is_its_value}
use Rattle.laws_contents.proofs.model.leader_is_its_value.Goals as goal

pub returns : goal.returns
returns c = leader_is_its_value
