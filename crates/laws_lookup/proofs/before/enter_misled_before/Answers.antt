use Rattle.laws_lookup.proofs.inside.BeforeDirs.{enter_misled_before}
use Rattle.laws_lookup.proofs.before.enter_misled_before.Goals as goal

pub returns : goal.returns
returns c = enter_misled_before
