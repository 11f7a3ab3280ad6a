use Rattle.laws_headline.proofs.inside.Recovering.{stopped_sessions_recover}
use Rattle.laws_headline.proofs.headline.stopped_sessions_recover.Goals as goal

pub returns : goal.returns
returns c = stopped_sessions_recover
