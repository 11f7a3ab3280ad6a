use Rattle.laws_session.proofs.inside.Standing.{turns_stand}
use Rattle.laws_session.proofs.ends.turns_stand.Goals as goal

pub returns : goal.returns
returns c = turns_stand
