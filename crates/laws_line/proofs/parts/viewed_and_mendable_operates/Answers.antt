use Rattle.laws_line.proofs.inside.crashes.Parting.{viewed_and_mendable_operates}
use Rattle.laws_line.proofs.parts.viewed_and_mendable_operates.Goals as goal

pub returns : goal.returns
returns c = viewed_and_mendable_operates
