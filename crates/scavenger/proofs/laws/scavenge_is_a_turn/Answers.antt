use Rattle.scavenger.proofs.Turning.{scavenge_is_a_turn}
use Rattle.scavenger.proofs.laws.scavenge_is_a_turn.Goals as goal

pub returns : goal.returns
returns c = scavenge_is_a_turn
