use Rattle.laws_mend.proofs.inside.FreeOnes.{needed_is_free}
use Rattle.laws_mend.proofs.numbers.needed_is_free.Goals as goal

pub returns : goal.returns
returns c = needed_is_free
