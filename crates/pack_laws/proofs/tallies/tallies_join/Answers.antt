use Rattle.pack_laws.proofs.inside.Tallying.{tallies_join}
use Rattle.pack_laws.proofs.tallies.tallies_join.Goals as goal

pub returns : goal.returns
returns c = tallies_join
