use Rattle.laws_session.proofs.inside.Fitting.{streams_stay_fit}
use Rattle.laws_session.proofs.streams.streams_stay_fit.Goals as goal

pub returns : goal.returns
returns c = streams_stay_fit
