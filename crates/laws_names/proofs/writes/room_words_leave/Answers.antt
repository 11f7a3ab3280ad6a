use Rattle.laws_names.proofs.inside.Rooms.{room_words_leave}
use Rattle.laws_names.proofs.writes.room_words_leave.Goals as goal

pub returns : goal.returns
returns c = room_words_leave
