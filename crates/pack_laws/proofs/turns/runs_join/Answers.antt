use Rattle.pack_laws.proofs.turns.Laws.{runs_join}
use Rattle.pack_laws.proofs.turns.runs_join.Goals as goal

pub returns : goal.returns
returns g c = runs_join g.X.Moves.means
