use Rattle.laws_hint.proofs.inside.HandyStaying.{handy_after_values}
use Rattle.laws_hint.proofs.handy.handy_after_values.Goals as goal

pub returns : goal.returns
returns c = handy_after_values
