use Rattle.laws_hint.proofs.inside.Reserving.{reserving_keeps_the_table}
use Rattle.laws_hint.proofs.tables.reserving_keeps_the_table.Goals as goal

pub returns : goal.returns
returns c = reserving_keeps_the_table
