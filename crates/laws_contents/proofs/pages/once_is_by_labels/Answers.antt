use Rattle.laws_contents.proofs.pages.Laws.{once_is_by_labels}
use Rattle.laws_contents.proofs.pages.once_is_by_labels.Goals as goal

pub returns : goal.returns
returns c = once_is_by_labels
