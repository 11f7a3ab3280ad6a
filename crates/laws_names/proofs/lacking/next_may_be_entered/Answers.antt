use Rattle.laws_names.proofs.inside.NextKept.{next_may_be_entered}
use Rattle.laws_names.proofs.lacking.next_may_be_entered.Goals as goal

pub returns : goal.returns
returns c = next_may_be_entered
