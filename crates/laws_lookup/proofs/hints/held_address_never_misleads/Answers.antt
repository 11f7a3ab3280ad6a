use Rattle.laws_lookup.proofs.inside.TrueHints.{held_address_never_misleads}
use Rattle.laws_lookup.proofs.hints.held_address_never_misleads.Goals as goal

pub returns : goal.returns
returns c = held_address_never_misleads
