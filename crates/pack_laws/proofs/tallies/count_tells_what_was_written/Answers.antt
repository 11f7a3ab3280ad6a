use Rattle.pack_laws.proofs.inside.Tallying.{count_tells_what_was_written}
use Rattle.pack_laws.proofs.tallies.count_tells_what_was_written.Goals as goal

pub returns : goal.returns
returns c = count_tells_what_was_written
