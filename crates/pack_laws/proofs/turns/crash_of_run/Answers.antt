use Rattle.pack_laws.proofs.turns.Laws.{crash_of_run}
use Rattle.pack_laws.proofs.turns.crash_of_run.Goals as goal

pub returns : goal.returns
returns g c = crash_of_run g.X.Moves.means
