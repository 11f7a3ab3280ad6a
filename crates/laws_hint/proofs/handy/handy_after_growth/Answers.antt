use Rattle.laws_hint.proofs.inside.HandyOperations.{handy_after_growth}
use Rattle.laws_hint.proofs.handy.handy_after_growth.Goals as goal

pub returns : goal.returns
returns c = handy_after_growth
