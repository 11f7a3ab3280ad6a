use Rattle.laws_met.proofs.inside.Meeting.{premises_are_met}
use Rattle.laws_met.proofs.premises.premises_are_met.Goals as goal

pub returns : goal.returns
returns c = premises_are_met
