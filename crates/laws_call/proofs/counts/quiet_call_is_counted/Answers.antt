use Rattle.laws_call.proofs.inside.Counting.{quiet_call_is_counted}
use Rattle.laws_call.proofs.counts.quiet_call_is_counted.Goals as goal

pub returns : goal.returns
returns c = quiet_call_is_counted
