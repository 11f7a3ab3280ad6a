use Rattle.laws_contents.proofs.pages.Laws.{none_before_the_first}
use Rattle.laws_contents.proofs.pages.none_before_the_first.Goals as goal

pub returns : goal.returns
returns c = none_before_the_first
