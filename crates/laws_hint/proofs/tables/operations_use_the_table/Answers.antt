use Rattle.laws_hint.proofs.inside.Reserving.{operations_use_the_table}
use Rattle.laws_hint.proofs.tables.operations_use_the_table.Goals as goal

pub returns : goal.returns
returns c = operations_use_the_table
