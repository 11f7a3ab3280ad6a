use Rattle.exec_words.proofs.ReadBack.{typed_reads_back}
use Rattle.exec_words.proofs.laws.typed_reads_back.Goals as goal

pub returns : goal.returns
returns c = typed_reads_back
