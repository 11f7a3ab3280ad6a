use Rattle.pack_laws.proofs.turns.Laws.{run_breaks_off}
use Rattle.pack_laws.proofs.turns.run_breaks_off.Goals as goal

pub returns : goal.returns
returns g c = run_breaks_off g.X.Moves.means
