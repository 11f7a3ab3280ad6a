use Rattle.laws_room.proofs.inside.Marking.{unmarked_stays}
use Rattle.laws_room.proofs.marks.unmarked_stays.Goals as goal

pub returns : goal.returns
returns c = unmarked_stays
