use Rattle.laws_record.proofs.inside.AsBefore.{same_leader_reads_same}
use Rattle.laws_record.proofs.quiet.same_leader_reads_same.Goals as goal

pub returns : goal.returns
returns c = same_leader_reads_same
