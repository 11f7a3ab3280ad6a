use Rattle.pack_laws.proofs.inside.GuardedWrites.{relabel_keeps_the_page}
use Rattle.pack_laws.proofs.guards.relabel_keeps_the_page.Goals as goal

pub returns : goal.returns
returns c = relabel_keeps_the_page
