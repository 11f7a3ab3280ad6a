use Rattle.scav_table.proofs.Staying as staying
use Rattle.scav_table.proofs.laws.rows_above_stay.Goals as goal

pub returns : goal.returns
returns c = staying.rows_above_stay
