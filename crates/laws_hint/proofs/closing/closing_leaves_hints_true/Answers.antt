use Rattle.laws_hint.proofs.inside.ClosedHints.{closing_leaves_hints_true}
use Rattle.laws_hint.proofs.closing.closing_leaves_hints_true.Goals as goal

pub returns : goal.returns
returns c = closing_leaves_hints_true
