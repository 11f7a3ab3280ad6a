use Rattle.laws_line.proofs.inside.crashes.Parting.{read_and_mendable_operates}
use Rattle.laws_line.proofs.parts.read_and_mendable_operates.Goals as goal

pub returns : goal.returns
returns c = read_and_mendable_operates
