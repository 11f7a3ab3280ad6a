use Rattle.laws_met.proofs.inside.Dropping.{drop_by_two_calls_is_met}
use Rattle.laws_met.proofs.writings.drop_by_two_calls_is_met.Goals as goal

pub returns : goal.returns
returns g c = drop_by_two_calls_is_met _ _
