use Rattle.laws_session.proofs.inside.OneFile.{append_may_begin}
use Rattle.laws_session.proofs.unrefused.append_may_begin.Goals as goal

pub returns : goal.returns
returns c = append_may_begin
