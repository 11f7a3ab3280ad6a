use Rattle.std.proofs.Common.{arith}
use Rattle.scav_table.proofs.Naming.{named_low}
use Rattle.scav_table.proofs.fill.row_in.Goals as goal

pub returns-clause-low : goal.returns-clause-low
returns-clause-low c = named_low c.args.label.now c.args.at c.bytes_in.result c.in_ok-page.page c.fits-label c.requires (omega arith) c.in_ok-page.ensures
