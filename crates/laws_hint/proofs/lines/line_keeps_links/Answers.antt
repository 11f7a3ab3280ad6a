use Rattle.laws_hint.proofs.inside.LineLinking.{line_keeps_links}
use Rattle.laws_hint.proofs.lines.line_keeps_links.Goals as goal

pub returns : goal.returns
returns c = line_keeps_links
