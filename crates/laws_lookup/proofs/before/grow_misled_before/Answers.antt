use Rattle.laws_lookup.proofs.inside.BeforeGrown.{grow_misled_before}
use Rattle.laws_lookup.proofs.before.grow_misled_before.Goals as goal

pub returns : goal.returns
returns c = grow_misled_before
