use Rattle.laws_met.proofs.inside.Writings.{make_is_written}
use Rattle.laws_met.proofs.writings.make_is_written.Goals as goal

pub returns : goal.returns
returns c = make_is_written
