use Rattle.laws_steps.proofs.inside.Entered.{entered_stays}
use Rattle.laws_steps.proofs.entries.entered_stays.Goals as goal

pub returns : goal.returns
returns c = entered_stays
