use Rattle.laws_session.proofs.inside.Loading.{kept_worlds_have_a_memory}
use Rattle.laws_session.proofs.zones.kept_worlds_have_a_memory.Goals as goal

pub returns : goal.returns
returns c = kept_worlds_have_a_memory
