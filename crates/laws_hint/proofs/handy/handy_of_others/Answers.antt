use Rattle.laws_hint.proofs.inside.HandyOperations.{handy_of_others}
use Rattle.laws_hint.proofs.handy.handy_of_others.Goals as goal

pub returns : goal.returns
returns c = handy_of_others
