use Rattle.laws_mend.proofs.inside.Counting.{freed_and_free}
use Rattle.laws_mend.proofs.numbers.freed_and_free.Goals as goal

pub returns : goal.returns
returns c = freed_and_free
