use Rattle.dir_slots.proofs.Shortening.{Shortening}
use Rattle.dir_slots.proofs.room.shortened.Given as goal

abbrev pub invariant-loop-slot : goal.invariant-loop-slot
invariant-loop-slot l = Shortening l.row l.fn.room l.room l.slot-index
