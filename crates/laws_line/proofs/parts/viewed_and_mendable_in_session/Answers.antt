use Rattle.laws_line.proofs.inside.crashes.Parting.{viewed_and_mendable_in_session}
use Rattle.laws_line.proofs.parts.viewed_and_mendable_in_session.Goals as goal

pub returns : goal.returns
returns c = viewed_and_mendable_in_session
