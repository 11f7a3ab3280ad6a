use Rattle.pack_laws.proofs.inside.Tallying.{tally_by_the_count}
use Rattle.pack_laws.proofs.tallies.tally_by_the_count.Goals as goal

pub returns : goal.returns
returns c = tally_by_the_count
