use Rattle.laws_mend.proofs.inside.Lacked.{root_needs_two}
use Rattle.laws_mend.proofs.numbers.root_needs_two.Goals as goal

pub returns : goal.returns
returns c = root_needs_two
