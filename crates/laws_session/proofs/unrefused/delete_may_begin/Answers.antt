use Rattle.laws_session.proofs.inside.OneFile.{delete_may_begin}
use Rattle.laws_session.proofs.unrefused.delete_may_begin.Goals as goal

pub returns : goal.returns
returns c = delete_may_begin
