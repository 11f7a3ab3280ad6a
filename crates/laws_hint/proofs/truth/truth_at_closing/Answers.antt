use Rattle.laws_hint.proofs.inside.Truths.{truth_at_closing}
use Rattle.laws_hint.proofs.truth.truth_at_closing.Goals as goal

pub returns : goal.returns
returns c = truth_at_closing
