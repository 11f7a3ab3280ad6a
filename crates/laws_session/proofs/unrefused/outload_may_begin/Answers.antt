use Rattle.laws_session.proofs.inside.Outloading.{outload_may_begin}
use Rattle.laws_session.proofs.unrefused.outload_may_begin.Goals as goal

pub returns : goal.returns
returns c = outload_may_begin
