use Rattle.laws_session.proofs.inside.Beginning.{fresh_memory_is_kept}
use Rattle.laws_session.proofs.begins.fresh_memory_is_kept.Goals as goal

pub returns : goal.returns
returns c = fresh_memory_is_kept
