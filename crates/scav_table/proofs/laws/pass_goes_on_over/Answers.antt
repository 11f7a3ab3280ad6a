use Rattle.scav_table.proofs.Staying as staying
use Rattle.scav_table.proofs.laws.pass_goes_on_over.Goals as goal

pub returns : goal.returns
returns c = staying.pass_goes_on_over
