use Rattle.laws_room.proofs.inside.Marking.{opened_is_unmarked}
use Rattle.laws_room.proofs.marks.opened_is_unmarked.Goals as goal

pub returns : goal.returns
returns c = opened_is_unmarked
