use Rattle.laws_steps.proofs.inside.Lengths.{new_file_is_empty}
use Rattle.laws_steps.proofs.lengths.new_file_is_empty.Goals as goal

pub returns : goal.returns
returns c = new_file_is_empty
