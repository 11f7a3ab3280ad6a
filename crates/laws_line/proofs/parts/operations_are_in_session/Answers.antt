use Rattle.laws_line.proofs.inside.crashes.Parting.{operations_are_in_session}
use Rattle.laws_line.proofs.parts.operations_are_in_session.Goals as goal

pub returns : goal.returns
returns c = operations_are_in_session
