use Rattle.laws_names.proofs.inside.Ending.{slot_splits}
use Rattle.laws_names.proofs.entries.slot_splits.Goals as goal

pub returns : goal.returns
returns c = slot_splits
