use Rattle.laws_session.proofs.inside.Beginning.{sessions_begin}
use Rattle.laws_session.proofs.begins.sessions_begin.Goals as goal

pub returns : goal.returns
returns c = sessions_begin
