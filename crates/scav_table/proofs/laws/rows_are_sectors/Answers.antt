use Rattle.scav_table.proofs.Belonging as belonging
use Rattle.scav_table.proofs.laws.rows_are_sectors.Goals as goal

pub returns : goal.returns
returns c = belonging.rows_are_sectors
