use Rattle.laws_lookup.proofs.inside.Misleading.{label_of_another_page_misleads}
use Rattle.laws_lookup.proofs.hints.label_of_another_page_misleads.Goals as goal

pub returns : goal.returns
returns c = label_of_another_page_misleads
