use Rattle.pack_laws.proofs.turns.Laws.{turns_are_shown}
use Rattle.pack_laws.proofs.turns.turns_are_shown.Goals as goal

pub returns : goal.returns
returns g c = turns_are_shown g.X.Moves.means
