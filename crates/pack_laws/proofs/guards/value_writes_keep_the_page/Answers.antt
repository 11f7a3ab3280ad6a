use Rattle.pack_laws.proofs.inside.GuardedWrites.{value_writes_keep_the_page}
use Rattle.pack_laws.proofs.guards.value_writes_keep_the_page.Goals as goal

pub returns : goal.returns
returns c = value_writes_keep_the_page
