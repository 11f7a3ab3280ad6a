use Rattle.laws_mend.proofs.inside.Reworded.{dir_write_keeps_pages}
use Rattle.laws_mend.proofs.slots.dir_write_keeps_pages.Goals as goal

pub returns : goal.returns
returns c = dir_write_keeps_pages
