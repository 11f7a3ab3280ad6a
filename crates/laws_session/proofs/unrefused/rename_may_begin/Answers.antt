use Rattle.laws_session.proofs.inside.Newcomers.{rename_may_begin}
use Rattle.laws_session.proofs.unrefused.rename_may_begin.Goals as goal

pub returns : goal.returns
returns c = rename_may_begin
