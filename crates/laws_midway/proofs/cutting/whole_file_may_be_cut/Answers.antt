use Rattle.laws_midway.proofs.inside.Cutting.{whole_file_may_be_cut}
use Rattle.laws_midway.proofs.cutting.whole_file_may_be_cut.Goals as goal

pub returns : goal.returns
returns c = whole_file_may_be_cut
