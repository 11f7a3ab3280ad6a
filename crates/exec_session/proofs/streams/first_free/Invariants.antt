use Rattle.std.proofs.Common.{◌≡◌, drop}
use Rattle.exec_session.specs.Streams.{free_from}
use Rattle.exec_session.proofs.streams.first_free.Given as goal

abbrev pub invariant-loop-slot : goal.invariant-loop-slot
invariant-loop-slot l = (l.number ≡ l.slot-index) × (free_from 0 l.slots ≡ free_from l.slot-index (drop l.slot-index l.slots))
