use Rattle.laws_record.proofs.inside.AsBefore.{past_count_reads_same}
use Rattle.laws_record.proofs.quiet.past_count_reads_same.Goals as goal

pub returns : goal.returns
returns c = past_count_reads_same
