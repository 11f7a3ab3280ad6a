use Rattle.laws_lookup.proofs.Replacing.{replacing_turns_round}
use Rattle.laws_lookup.proofs.own.replacing_turns_round.Goals as goal

pub returns : goal.returns
returns c = replacing_turns_round
