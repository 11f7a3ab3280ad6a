use Rattle.laws_names.proofs.inside.MoreRoom.{no_room_is_none}
use Rattle.laws_names.proofs.lacking.no_room_is_none.Goals as goal

pub returns : goal.returns
returns c = no_room_is_none
