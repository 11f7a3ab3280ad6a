use Rattle.laws_record.proofs.inside.AsBefore.{equal_value_reads_same}
use Rattle.laws_record.proofs.quiet.equal_value_reads_same.Goals as goal

pub returns : goal.returns
returns c = equal_value_reads_same
