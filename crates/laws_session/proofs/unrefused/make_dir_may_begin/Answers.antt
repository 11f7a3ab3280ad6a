use Rattle.laws_session.proofs.inside.Newcomers.{make_dir_may_begin}
use Rattle.laws_session.proofs.unrefused.make_dir_may_begin.Goals as goal

pub returns : goal.returns
returns c = make_dir_may_begin
