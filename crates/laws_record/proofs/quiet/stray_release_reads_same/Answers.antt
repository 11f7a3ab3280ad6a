use Rattle.laws_record.proofs.inside.AsBefore.{stray_release_reads_same}
use Rattle.laws_record.proofs.quiet.stray_release_reads_same.Goals as goal

pub returns : goal.returns
returns c = stray_release_reads_same
