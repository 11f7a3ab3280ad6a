use Rattle.pack_laws.proofs.inside.Tallying.{quiet_moves_are_not_counted}
use Rattle.pack_laws.proofs.tallies.quiet_moves_are_not_counted.Goals as goal

pub returns : goal.returns
returns c = quiet_moves_are_not_counted
