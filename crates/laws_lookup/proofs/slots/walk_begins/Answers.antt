use Rattle.laws_lookup.proofs.inside.Walking.{walk_begins}
use Rattle.laws_lookup.proofs.slots.walk_begins.Goals as goal

pub returns : goal.returns
returns c = walk_begins
