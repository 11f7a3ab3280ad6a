use Rattle.laws_met.proofs.inside.Writings.{writings_are_met}
use Rattle.laws_met.proofs.writings.writings_are_met.Goals as goal

pub returns : goal.returns
returns c = writings_are_met
