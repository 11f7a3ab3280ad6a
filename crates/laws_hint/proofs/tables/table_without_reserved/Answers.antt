use Rattle.laws_hint.proofs.inside.Reserving.{table_without_reserved}
use Rattle.laws_hint.proofs.tables.table_without_reserved.Goals as goal

pub returns : goal.returns
returns c = table_without_reserved
