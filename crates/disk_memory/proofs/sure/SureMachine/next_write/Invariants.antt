use Rattle.std.proofs.Common.{◌≡◌, drop}
use Rattle.disk_records.specs.Events.{next_write}
use Rattle.disk_memory.proofs.sure.SureMachine.next_write.Given as goal

-- the record write that is looked for is the one after the first `left` of the events left
abbrev pub invariant-loop-event : goal.invariant-loop-event
invariant-loop-event l = next_write l.self.events.items l.k ≡ next_write (drop l.event-index l.self.events.items) l.left
