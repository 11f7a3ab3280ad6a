use Rattle.pack_laws.proofs.turns.Laws.{crash_of_turns}
use Rattle.pack_laws.proofs.turns.crash_of_turns.Goals as goal

pub returns : goal.returns
returns g c = crash_of_turns g.X.Moves.weight g.X.Moves.means
