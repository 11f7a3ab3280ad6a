use Rattle.laws_mend.proofs.inside.Reworded.{dir_write_reaches_its_end}
use Rattle.laws_mend.proofs.slots.dir_write_reaches_its_end.Goals as goal

pub returns : goal.returns
returns c = dir_write_reaches_its_end
