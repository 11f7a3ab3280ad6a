use Rattle.std.proofs.Common.{arith}
use Rattle.std.proofs.lemmas.Bool.Decides.{nat_tests}
use Rattle.disk_records.specs.Labels.{in_range}
use Rattle.disk_records.proofs.label.page_of.Goals as goal

pub returns-then-is_full_name : goal.returns-then-is_full_name
unfolding in_range
returns-then-is_full_name c = grind (arith, nat_tests)

pub returns-else-label-le-PAGE_BYTES : goal.returns-else-label-le-PAGE_BYTES
unfolding in_range
returns-else-label-le-PAGE_BYTES c = grind (arith, nat_tests)
