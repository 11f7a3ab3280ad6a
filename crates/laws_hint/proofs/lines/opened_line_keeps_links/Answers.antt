use Rattle.laws_hint.proofs.inside.LineLinking.{opened_line_keeps_links}
use Rattle.laws_hint.proofs.lines.opened_line_keeps_links.Goals as goal

pub returns : goal.returns
returns c = opened_line_keeps_links
