use Rattle.laws_operation.proofs.inside.looks.Counted.{pages_before_the_last_are_full}
use Rattle.laws_operation.proofs.lengths.pages_before_the_last_are_full.Goals as goal

pub returns : goal.returns
returns c = pages_before_the_last_are_full
