use Rattle.laws_lookup.proofs.inside.LeftAlone.{cut_keeps_pages}
use Rattle.laws_lookup.proofs.others.cut_keeps_pages.Goals as goal

pub returns : goal.returns
returns c = cut_keeps_pages
