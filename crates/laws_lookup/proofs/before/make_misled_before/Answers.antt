use Rattle.laws_lookup.proofs.inside.Before.{make_misled_before}
use Rattle.laws_lookup.proofs.before.make_misled_before.Goals as goal

pub returns : goal.returns
returns c = make_misled_before
