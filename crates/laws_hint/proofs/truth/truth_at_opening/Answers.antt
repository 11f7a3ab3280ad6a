use Rattle.laws_hint.proofs.inside.Truths.{truth_at_opening}
use Rattle.laws_hint.proofs.truth.truth_at_opening.Goals as goal

pub returns : goal.returns
returns c = truth_at_opening
