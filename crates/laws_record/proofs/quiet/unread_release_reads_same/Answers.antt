use Rattle.laws_record.proofs.inside.AsBefore.{unread_release_reads_same}
use Rattle.laws_record.proofs.quiet.unread_release_reads_same.Goals as goal

pub returns : goal.returns
returns c = unread_release_reads_same
