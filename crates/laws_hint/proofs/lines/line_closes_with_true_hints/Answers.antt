use Rattle.laws_hint.proofs.inside.LineLinking.{line_closes_with_true_hints}
use Rattle.laws_hint.proofs.lines.line_closes_with_true_hints.Goals as goal

pub returns : goal.returns
returns c = line_closes_with_true_hints
