use Rattle.pack_laws.proofs.inside.Tallying.{tallies_of_turns_join}
use Rattle.pack_laws.proofs.tallies.tallies_of_turns_join.Goals as goal

pub returns : goal.returns
returns c = tallies_of_turns_join
