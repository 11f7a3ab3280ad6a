use Rattle.laws_record.proofs.inside.AsBefore.{leader_hints_reads_same}
use Rattle.laws_record.proofs.quiet.leader_hints_reads_same.Goals as goal

pub returns : goal.returns
returns c = leader_hints_reads_same
