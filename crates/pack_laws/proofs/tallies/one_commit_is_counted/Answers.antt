use Rattle.pack_laws.proofs.inside.Tallying.{one_commit_is_counted}
use Rattle.pack_laws.proofs.tallies.one_commit_is_counted.Goals as goal

pub returns : goal.returns
returns c = one_commit_is_counted
