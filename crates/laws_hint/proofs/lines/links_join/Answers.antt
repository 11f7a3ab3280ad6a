use Rattle.laws_hint.proofs.inside.LineLinking.{links_join}
use Rattle.laws_hint.proofs.lines.links_join.Goals as goal

pub returns : goal.returns
returns c = links_join
