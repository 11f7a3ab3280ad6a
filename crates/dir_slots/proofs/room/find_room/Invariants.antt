use Rattle.dir_slots.proofs.Rows.{Searching}
use Rattle.dir_slots.proofs.room.find_room.Given as goal

abbrev pub invariant-loop-at : goal.invariant-loop-at
invariant-loop-at l = Searching l.n l.slots l.row l.at
