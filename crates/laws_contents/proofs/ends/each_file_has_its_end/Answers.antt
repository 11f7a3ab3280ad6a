use Rattle.laws_contents.proofs.ends.Laws.{each_file_has_its_end}
use Rattle.laws_contents.proofs.ends.each_file_has_its_end.Goals as goal

pub returns : goal.returns
returns c = each_file_has_its_end
