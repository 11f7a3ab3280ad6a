use Rattle.laws_contents.proofs.bytes.Laws.{page_goes_on}
use Rattle.laws_contents.proofs.bytes.page_goes_on.Goals as goal

pub returns : goal.returns
returns c = page_goes_on
