use Rattle.pack_laws.proofs.inside.GuardedWrites.{claim_takes_at_the_label}
use Rattle.pack_laws.proofs.guards.claim_takes_at_the_label.Goals as goal

pub returns : goal.returns
returns c = claim_takes_at_the_label
