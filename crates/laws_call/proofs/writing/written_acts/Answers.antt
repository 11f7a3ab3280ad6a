use Rattle.laws_call.proofs.inside.Writing.{written_acts}
use Rattle.laws_call.proofs.writing.written_acts.Goals as goal

pub returns : goal.returns
returns c = written_acts
