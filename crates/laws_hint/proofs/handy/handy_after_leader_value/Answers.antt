use Rattle.laws_hint.proofs.inside.HandyStaying.{handy_after_leader_value}
use Rattle.laws_hint.proofs.handy.handy_after_leader_value.Goals as goal

pub returns : goal.returns
returns c = handy_after_leader_value
