use Rattle.laws_names.proofs.inside.Staying.{entries_stay_on}
use Rattle.laws_names.proofs.entries.entries_stay_on.Goals as goal

pub returns : goal.returns
returns c = entries_stay_on
