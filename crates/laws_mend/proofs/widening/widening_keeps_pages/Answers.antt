use Rattle.laws_mend.proofs.inside.WidenedParts.{widening_keeps_pages}
use Rattle.laws_mend.proofs.widening.widening_keeps_pages.Goals as goal

pub returns : goal.returns
returns c = widening_keeps_pages
