use Rattle.leader_page.proofs.Values.{length-value}
use Rattle.leader_page.proofs.laws.length_value.Goals as goal

pub returns : goal.returns
returns c = length-value
