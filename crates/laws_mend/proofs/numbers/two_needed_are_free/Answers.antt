use Rattle.laws_mend.proofs.inside.FreeOnes.{two_needed_are_free}
use Rattle.laws_mend.proofs.numbers.two_needed_are_free.Goals as goal

pub returns : goal.returns
returns c = two_needed_are_free
