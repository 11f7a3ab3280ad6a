use Rattle.laws_format.proofs.inside.Preparing.{unused_value_reads_same}
use Rattle.laws_format.proofs.preparing.unused_value_reads_same.Goals as goal

pub returns : goal.returns
returns c = unused_value_reads_same
