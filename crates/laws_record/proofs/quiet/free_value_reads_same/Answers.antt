use Rattle.laws_record.proofs.inside.AsBefore.{free_value_reads_same}
use Rattle.laws_record.proofs.quiet.free_value_reads_same.Goals as goal

pub returns : goal.returns
returns c = free_value_reads_same
