use Rattle.pack_laws.proofs.turns.Laws.{faults_leave_a_prefix}
use Rattle.pack_laws.proofs.turns.faults_leave_a_prefix.Goals as goal

pub returns : goal.returns
returns g c = faults_leave_a_prefix _ _ g.X.Moves.means
