use Rattle.laws_record.proofs.inside.AsBefore.{loose_words_reads_same}
use Rattle.laws_record.proofs.directories.loose_words_reads_same.Goals as goal

pub returns : goal.returns
returns c = loose_words_reads_same
