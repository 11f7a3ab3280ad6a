use Rattle.laws_room.proofs.inside.Marking.{unmarked_is_unclean}
use Rattle.laws_room.proofs.marks.unmarked_is_unclean.Goals as goal

pub returns : goal.returns
returns c = unmarked_is_unclean
