use Rattle.std.proofs.Common.{◌≡◌, take}
use Rattle.disk_records.specs.Events.{shown_bytes}
use Rattle.disk_memory.proofs.sure.SureMachine.shown.Given as goal

abbrev pub invariant-loop-event : goal.invariant-loop-event
invariant-loop-event l = l.bytes.items ≡ shown_bytes (take l.event-index l.self.events.items)
