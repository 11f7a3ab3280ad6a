use Rattle.laws_operation.proofs.inside.looks.Counted.{placed_pages_are_those_up_to_the_last}
use Rattle.laws_operation.proofs.lengths.placed_pages_are_those_up_to_the_last.Goals as goal

pub returns : goal.returns
returns c = placed_pages_are_those_up_to_the_last
