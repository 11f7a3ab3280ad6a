use Rattle.scavenger.proofs.Turning.{first_line_may_scavenge}
use Rattle.scavenger.proofs.laws.first_line_may_scavenge.Goals as goal

pub returns : goal.returns
returns c = first_line_may_scavenge
