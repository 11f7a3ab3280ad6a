use Rattle.laws_contents.proofs.pages.Laws.{labels_count}
use Rattle.laws_contents.proofs.pages.labels_count.Goals as goal

pub returns : goal.returns
returns c = labels_count
