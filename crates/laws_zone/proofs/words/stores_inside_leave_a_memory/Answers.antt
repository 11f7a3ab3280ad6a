use Rattle.laws_zone.proofs.inside.Wording.{stores_inside_leave_a_memory}
use Rattle.laws_zone.proofs.words.stores_inside_leave_a_memory.Goals as goal

pub returns : goal.returns
returns c = stores_inside_leave_a_memory
