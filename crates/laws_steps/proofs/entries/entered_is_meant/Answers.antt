use Rattle.laws_steps.proofs.inside.Entered.{entered_is_meant}
use Rattle.laws_steps.proofs.entries.entered_is_meant.Goals as goal

pub returns : goal.returns
returns c = entered_is_meant
