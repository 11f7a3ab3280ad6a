use Rattle.laws_lookup.proofs.inside.TrueHints.{true_hints_never_mislead}
use Rattle.laws_lookup.proofs.hints.true_hints_never_mislead.Goals as goal

pub returns : goal.returns
returns c = true_hints_never_mislead
