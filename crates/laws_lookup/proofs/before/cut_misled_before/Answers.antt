use Rattle.laws_lookup.proofs.inside.Before.{cut_misled_before}
use Rattle.laws_lookup.proofs.before.cut_misled_before.Goals as goal

pub returns : goal.returns
returns c = cut_misled_before
