use Rattle.laws_session.proofs.inside.Numbered.{streams_stay_apart}
use Rattle.laws_session.proofs.streams.streams_stay_apart.Goals as goal

pub returns : goal.returns
returns c = streams_stay_apart
