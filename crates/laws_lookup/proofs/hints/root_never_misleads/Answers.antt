use Rattle.laws_lookup.proofs.inside.TrueHints.{root_never_misleads}
use Rattle.laws_lookup.proofs.hints.root_never_misleads.Goals as goal

pub returns : goal.returns
returns c = root_never_misleads
