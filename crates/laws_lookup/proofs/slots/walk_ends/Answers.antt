use Rattle.laws_lookup.proofs.inside.Walking.{walk_ends}
use Rattle.laws_lookup.proofs.slots.walk_ends.Goals as goal

pub returns : goal.returns
returns c = walk_ends
