use Rattle.laws_hint.proofs.inside.Truths.{truth_goes_on}
use Rattle.laws_hint.proofs.truth.truth_goes_on.Goals as goal

pub returns : goal.returns
returns c = truth_goes_on
