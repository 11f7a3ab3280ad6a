use Rattle.laws_record.proofs.inside.AsBefore.{unread_claim_reads_same}
use Rattle.laws_record.proofs.quiet.unread_claim_reads_same.Goals as goal

pub returns : goal.returns
returns c = unread_claim_reads_same
