use Rattle.laws_lookup.proofs.inside.BeforeDrop.{drop_misled_before}
use Rattle.laws_lookup.proofs.before.drop_misled_before.Goals as goal

pub returns : goal.returns
returns c = drop_misled_before
