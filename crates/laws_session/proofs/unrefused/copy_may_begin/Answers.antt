use Rattle.laws_session.proofs.inside.Newcomers.{copy_may_begin}
use Rattle.laws_session.proofs.unrefused.copy_may_begin.Goals as goal

pub returns : goal.returns
returns c = copy_may_begin
