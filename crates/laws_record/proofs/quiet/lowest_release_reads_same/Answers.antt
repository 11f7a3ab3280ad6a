use Rattle.laws_record.proofs.inside.AsBefore.{lowest_release_reads_same}
use Rattle.laws_record.proofs.quiet.lowest_release_reads_same.Goals as goal

pub returns : goal.returns
returns c = lowest_release_reads_same
