use Rattle.laws_record.proofs.inside.AsBefore.{other_links_reads_same}
use Rattle.laws_record.proofs.quiet.other_links_reads_same.Goals as goal

pub returns : goal.returns
returns c = other_links_reads_same
