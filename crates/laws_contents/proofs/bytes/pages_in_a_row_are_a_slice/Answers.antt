use Rattle.laws_contents.proofs.bytes.Laws.{pages_in_a_row_are_a_slice}
use Rattle.laws_contents.proofs.bytes.pages_in_a_row_are_a_slice.Goals as goal

pub returns : goal.returns
returns c = pages_in_a_row_are_a_slice
