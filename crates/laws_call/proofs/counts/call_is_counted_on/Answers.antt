use Rattle.laws_call.proofs.inside.Counting.{call_is_counted_on}
use Rattle.laws_call.proofs.counts.call_is_counted_on.Goals as goal

pub returns : goal.returns
returns g c = call_is_counted_on _ _
