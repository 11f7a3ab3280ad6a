use Rattle.laws_session.proofs.inside.OneFile.{remove_dir_may_begin}
use Rattle.laws_session.proofs.unrefused.remove_dir_may_begin.Goals as goal

pub returns : goal.returns
returns c = remove_dir_may_begin
