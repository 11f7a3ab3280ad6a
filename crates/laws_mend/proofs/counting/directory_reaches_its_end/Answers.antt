use Rattle.laws_mend.proofs.inside.Shortened.{directory_reaches_its_end}
use Rattle.laws_mend.proofs.counting.directory_reaches_its_end.Goals as goal

pub returns : goal.returns
returns c = directory_reaches_its_end
