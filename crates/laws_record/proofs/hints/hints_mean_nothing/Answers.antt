use Rattle.laws_record.proofs.inside.HintBytes.{hints_mean_nothing}
use Rattle.laws_record.proofs.hints.hints_mean_nothing.Goals as goal

pub returns : goal.returns
returns c = hints_mean_nothing
