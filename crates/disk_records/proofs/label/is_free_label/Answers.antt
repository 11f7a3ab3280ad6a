use Rattle.std.proofs.Common.{arith}
use Rattle.std.proofs.lemmas.Bool.Decides.{nat_tests}
use Rattle.disk_records.specs.Labels.{is_free}
use Rattle.disk_records.proofs.label.is_free_label.Goals as goal

pub returns-then-label-eq65535-2 : goal.returns-then-label-eq65535-2
unfolding is_free
returns-then-label-eq65535-2 c = grind (arith, nat_tests)

pub returns-else-label-eq65535-2 : goal.returns-else-label-eq65535-2
unfolding is_free
returns-else-label-eq65535-2 c = grind (arith, nat_tests)
