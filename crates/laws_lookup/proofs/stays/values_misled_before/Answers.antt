use Rattle.laws_lookup.proofs.inside.Staying.{values_misled_before}
use Rattle.laws_lookup.proofs.stays.values_misled_before.Goals as goal

pub returns : goal.returns
returns c = values_misled_before
