use Rattle.scav_table.proofs.Staying as staying
use Rattle.scav_table.proofs.laws.windows_are_rows.Goals as goal

pub returns : goal.returns
returns c = staying.windows_are_rows
