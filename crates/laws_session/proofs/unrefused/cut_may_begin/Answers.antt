use Rattle.laws_session.proofs.inside.OneFile.{cut_may_begin}
use Rattle.laws_session.proofs.unrefused.cut_may_begin.Goals as goal

pub returns : goal.returns
returns c = cut_may_begin
