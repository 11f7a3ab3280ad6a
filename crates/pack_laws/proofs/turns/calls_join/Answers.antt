use Rattle.pack_laws.proofs.turns.Laws.{calls_join}
use Rattle.pack_laws.proofs.turns.calls_join.Goals as goal

pub returns : goal.returns
returns g c = calls_join _ _ _ _ g.X.Moves.means
