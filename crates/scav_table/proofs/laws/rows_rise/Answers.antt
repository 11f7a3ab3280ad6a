use Rattle.scav_table.proofs.Staying as staying
use Rattle.scav_table.proofs.laws.rows_rise.Goals as goal

pub returns : goal.returns
returns c = staying.rows_rise
