use Rattle.pack_laws.proofs.inside.GuardedWrites.{release_frees_at_the_label}
use Rattle.pack_laws.proofs.guards.release_frees_at_the_label.Goals as goal

pub returns : goal.returns
returns c = release_frees_at_the_label
