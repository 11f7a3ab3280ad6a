use Rattle.laws_lookup.proofs.inside.LeftAlone.{widen_keeps_pages}
use Rattle.laws_lookup.proofs.others.widen_keeps_pages.Goals as goal

pub returns : goal.returns
returns c = widen_keeps_pages
