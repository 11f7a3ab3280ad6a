use Rattle.std.proofs.Common.{[], take}
use Rattle.disk_memory.specs.Adding.{Adds}
use Rattle.disk_memory.specs.Making.{first_tape}
use Rattle.disk_memory.specs.contracts.sure.SureMachineTape.TheImpl.{ghosts}
use Rattle.disk_memory.proofs.sure.SureMachine.cut.Given as goal

abbrev pub invariant-loop-event : goal.invariant-loop-event
invariant-loop-event l = Adds (first_tape l.self.shape l.self.base.items []) (ghosts.tape l.machine) (take l.event-index l.event-items)
