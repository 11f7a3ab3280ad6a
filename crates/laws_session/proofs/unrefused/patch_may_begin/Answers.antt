use Rattle.laws_session.proofs.inside.OneFile.{patch_may_begin}
use Rattle.laws_session.proofs.unrefused.patch_may_begin.Goals as goal

pub returns : goal.returns
returns c = patch_may_begin
