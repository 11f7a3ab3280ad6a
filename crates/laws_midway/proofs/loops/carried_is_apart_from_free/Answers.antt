use Rattle.laws_midway.proofs.inside.Apart.{carried_is_apart_from_free}
use Rattle.laws_midway.proofs.loops.carried_is_apart_from_free.Goals as goal

pub returns : goal.returns
returns c = carried_is_apart_from_free
