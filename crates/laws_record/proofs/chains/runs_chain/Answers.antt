use Rattle.laws_record.proofs.Chaining.{runs_chain}
use Rattle.laws_record.proofs.chains.runs_chain.Goals as goal

pub returns : goal.returns
returns g c = runs_chain g.X.Moves.means
