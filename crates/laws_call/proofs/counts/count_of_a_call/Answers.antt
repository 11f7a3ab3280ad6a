use Rattle.laws_call.proofs.inside.Counting.{count_of_a_call}
use Rattle.laws_call.proofs.counts.count_of_a_call.Goals as goal

pub returns : goal.returns
returns c = count_of_a_call
