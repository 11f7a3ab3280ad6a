use Rattle.laws_steps.proofs.inside.Keeping.{written_keeps_found}
use Rattle.laws_steps.proofs.keeping.written_keeps_found.Goals as goal

pub returns : goal.returns
returns c = written_keeps_found
