use Rattle.laws_contents.proofs.pages.Laws.{full_before_each_of_a_whole_pack}
use Rattle.laws_contents.proofs.pages.full_before_each_of_a_whole_pack.Goals as goal

pub returns : goal.returns
returns c = full_before_each_of_a_whole_pack
