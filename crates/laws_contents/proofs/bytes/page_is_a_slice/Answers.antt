use Rattle.laws_contents.proofs.bytes.Laws.{page_is_a_slice}
use Rattle.laws_contents.proofs.bytes.page_is_a_slice.Goals as goal

pub returns : goal.returns
returns c = page_is_a_slice
