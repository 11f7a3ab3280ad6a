use Rattle.pack_laws.proofs.turns.Laws.{acknowledged_are_done}
use Rattle.pack_laws.proofs.turns.acknowledged_are_done.Goals as goal

pub returns : goal.returns
returns g c = acknowledged_are_done g.X.Moves.means
