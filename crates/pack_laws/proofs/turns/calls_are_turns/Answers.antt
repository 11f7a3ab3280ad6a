use Rattle.pack_laws.proofs.turns.Laws.{calls_are_turns}
use Rattle.pack_laws.proofs.turns.calls_are_turns.Goals as goal

pub returns : goal.returns
returns g c = calls_are_turns _ _ _ g.X.Moves.means
