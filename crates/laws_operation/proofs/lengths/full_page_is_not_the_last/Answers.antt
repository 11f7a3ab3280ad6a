use Rattle.laws_operation.proofs.inside.looks.Counted.{full_page_is_not_the_last}
use Rattle.laws_operation.proofs.lengths.full_page_is_not_the_last.Goals as goal

pub returns : goal.returns
returns c = full_page_is_not_the_last
