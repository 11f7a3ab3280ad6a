use Rattle.laws_record.proofs.inside.AsBefore.{copy_claim_reads_same}
use Rattle.laws_record.proofs.quiet.copy_claim_reads_same.Goals as goal

pub returns : goal.returns
returns c = copy_claim_reads_same
