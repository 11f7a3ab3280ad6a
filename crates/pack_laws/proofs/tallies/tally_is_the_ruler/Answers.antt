use Rattle.pack_laws.proofs.inside.Tallying.{tally_is_the_ruler}
use Rattle.pack_laws.proofs.tallies.tally_is_the_ruler.Goals as goal
use Rattle.pack_model.specs.sessions.Meanings.{session}

pub returns : goal.returns
returns c = tally_is_the_ruler session
