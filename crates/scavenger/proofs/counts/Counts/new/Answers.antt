use Rattle.scavenger.proofs.Starting.{counts_none}
use Rattle.scavenger.proofs.counts.Counts.new.Goals as goal

pub returns : goal.returns
returns c = counts_none
