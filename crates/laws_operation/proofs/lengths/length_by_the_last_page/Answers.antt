use Rattle.laws_operation.proofs.inside.looks.Counted.{length_by_the_last_page}
use Rattle.laws_operation.proofs.lengths.length_by_the_last_page.Goals as goal

pub returns : goal.returns
returns c = length_by_the_last_page
