use Rattle.laws_record.proofs.inside.AsBefore.{last_claim_reads_same}
use Rattle.laws_record.proofs.quiet.last_claim_reads_same.Goals as goal

pub returns : goal.returns
returns c = last_claim_reads_same
