use Rattle.laws_session.proofs.inside.Loading.{worlds_are_kept}
use Rattle.laws_session.proofs.zones.worlds_are_kept.Goals as goal

pub returns : goal.returns
returns c = worlds_are_kept
