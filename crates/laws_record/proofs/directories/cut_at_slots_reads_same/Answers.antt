use Rattle.laws_record.proofs.inside.AsBefore.{cut_at_slots_reads_same}
use Rattle.laws_record.proofs.directories.cut_at_slots_reads_same.Goals as goal

pub returns : goal.returns
returns c = cut_at_slots_reads_same
