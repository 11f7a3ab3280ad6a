use Rattle.pack_laws.proofs.turns.Laws.{ruler_laws}
use Rattle.pack_laws.proofs.turns.ruler_laws.Goals as goal

pub returns : goal.returns
returns g c = ruler_laws g.X.Moves.weight g.X.Moves.means
