use Rattle.std.proofs.Common.{arith}
use Rattle.std.proofs.lemmas.Bool.Decides.{nat_tests}
use Rattle.disk_records.specs.Labels.{in_range}
use Rattle.disk_records.proofs.laws.label_reads_back.Goals as goal

pub returns : goal.returns
unfolding in_range
returns c page bytes next previous full number few = grind (arith, nat_tests)
