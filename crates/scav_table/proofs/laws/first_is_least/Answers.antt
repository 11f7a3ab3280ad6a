use Rattle.scav_table.proofs.Belonging as belonging
use Rattle.scav_table.proofs.laws.first_is_least.Goals as goal

pub returns : goal.returns
returns c = belonging.first_is_least
