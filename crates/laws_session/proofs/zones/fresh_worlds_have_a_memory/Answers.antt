use Rattle.laws_session.proofs.inside.Loading.{fresh_worlds_have_a_memory}
use Rattle.laws_session.proofs.zones.fresh_worlds_have_a_memory.Goals as goal

pub returns : goal.returns
returns c = fresh_worlds_have_a_memory
