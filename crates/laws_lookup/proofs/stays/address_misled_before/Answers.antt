use Rattle.laws_lookup.proofs.inside.Staying.{address_misled_before}
use Rattle.laws_lookup.proofs.stays.address_misled_before.Goals as goal

pub returns : goal.returns
returns c = address_misled_before
