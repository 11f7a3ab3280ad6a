use Rattle.dir_slots.proofs.Runs.{Running}
use Rattle.dir_slots.proofs.room.largest_run.Given as goal

abbrev pub invariant-loop-slot : goal.invariant-loop-slot
invariant-loop-slot l = Running l.slots l.slot-index l.run l.largest
