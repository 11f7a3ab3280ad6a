use Rattle.std.proofs.Common.{refl}
use Rattle.scav_table.specs.Rows.{rank}
use Rattle.scav_table.proofs.row.Row.rank.Goals as goal

pub returns : goal.returns
unfolding rank
returns c = refl
