use Rattle.scav_table.proofs.Staying as staying
use Rattle.scav_table.proofs.laws.rows_after_next.Goals as goal

pub returns : goal.returns
returns c = staying.rows_after_next
