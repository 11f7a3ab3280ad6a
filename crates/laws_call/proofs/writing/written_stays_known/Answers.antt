use Rattle.laws_call.proofs.inside.Knowing.{written_stays_known}
use Rattle.laws_call.proofs.writing.written_stays_known.Goals as goal

pub returns : goal.returns
returns c = written_stays_known
