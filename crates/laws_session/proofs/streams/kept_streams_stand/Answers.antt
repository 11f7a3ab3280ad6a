use Rattle.laws_session.proofs.inside.Fitting.{kept_streams_stand}
use Rattle.laws_session.proofs.streams.kept_streams_stand.Goals as goal

pub returns : goal.returns
returns c = kept_streams_stand
