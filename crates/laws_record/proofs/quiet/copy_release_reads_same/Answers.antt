use Rattle.laws_record.proofs.inside.AsBefore.{copy_release_reads_same}
use Rattle.laws_record.proofs.quiet.copy_release_reads_same.Goals as goal

pub returns : goal.returns
returns c = copy_release_reads_same
