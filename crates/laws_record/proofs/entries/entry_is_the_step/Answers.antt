use Rattle.laws_record.proofs.Entering.{entry_is_the_step}
use Rattle.laws_record.proofs.entries.entry_is_the_step.Goals as goal

pub returns : goal.returns
returns c = entry_is_the_step
