use Rattle.laws_steps.proofs.inside.Named.{named_page_stays}
use Rattle.laws_steps.proofs.lengths.named_page_stays.Goals as goal

pub returns : goal.returns
returns c = named_page_stays
