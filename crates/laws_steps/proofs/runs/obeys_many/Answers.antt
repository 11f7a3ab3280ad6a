use Rattle.laws_steps.proofs.inside.Runs.{obeys_many}
use Rattle.laws_steps.proofs.runs.obeys_many.Goals as goal

pub returns : goal.returns
returns g c = obeys_many g.X.Moves.means
