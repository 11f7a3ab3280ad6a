use Rattle.laws_session.proofs.inside.Calling.{true_hints_fail_no_call}
use Rattle.laws_session.proofs.calls.true_hints_fail_no_call.Goals as goal

pub returns : goal.returns
returns c = true_hints_fail_no_call
