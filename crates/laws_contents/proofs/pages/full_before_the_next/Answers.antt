use Rattle.laws_contents.proofs.pages.Laws.{full_before_the_next}
use Rattle.laws_contents.proofs.pages.full_before_the_next.Goals as goal

pub returns : goal.returns
returns c = full_before_the_next
