use Rattle.laws_session.proofs.inside.Loading.{loaded_worlds_have_a_memory}
use Rattle.laws_session.proofs.zones.loaded_worlds_have_a_memory.Goals as goal

pub returns : goal.returns
returns c = loaded_worlds_have_a_memory
