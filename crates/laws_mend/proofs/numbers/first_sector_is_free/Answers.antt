use Rattle.laws_mend.proofs.inside.FirstSector.{first_sector_is_free}
use Rattle.laws_mend.proofs.numbers.first_sector_is_free.Goals as goal

pub returns : goal.returns
returns c = first_sector_is_free
