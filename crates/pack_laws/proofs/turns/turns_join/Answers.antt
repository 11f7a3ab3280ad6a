use Rattle.pack_laws.proofs.turns.Laws.{turns_join}
use Rattle.pack_laws.proofs.turns.turns_join.Goals as goal

pub returns : goal.returns
returns g c = turns_join g.X.Moves.means
