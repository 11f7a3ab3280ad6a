use Rattle.std.proofs.Common.{arith}
use Rattle.scav_table.proofs.Rising.{last_is}
use Rattle.scav_table.proofs.table.last_or.Goals as goal

pub returns-in-len1-up : goal.returns-in-len1-up
returns-in-len1-up c = last_is c.args.bound c.args.rows.now _ (omega arith)
