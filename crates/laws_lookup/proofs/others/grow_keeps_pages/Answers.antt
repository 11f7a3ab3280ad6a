use Rattle.laws_lookup.proofs.inside.LeftAlone.{grow_keeps_pages}
use Rattle.laws_lookup.proofs.others.grow_keeps_pages.Goals as goal

pub returns : goal.returns
returns c = grow_keeps_pages
