use Rattle.laws_lookup.proofs.inside.Sourcing.{leader_that_is_not_there_misleads}
use Rattle.laws_lookup.proofs.sources.leader_that_is_not_there_misleads.Goals as goal

pub returns : goal.returns
returns c = leader_that_is_not_there_misleads
