use Rattle.pack_laws.proofs.turns.Laws.{writes_are_made}
use Rattle.pack_laws.proofs.turns.writes_are_made.Goals as goal

pub returns : goal.returns
returns g c = writes_are_made g.X.Moves.means
