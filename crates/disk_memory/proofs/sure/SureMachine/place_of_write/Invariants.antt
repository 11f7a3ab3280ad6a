use Rattle.std.proofs.Common.{◌≡◌, ◌+◌, drop}
use Rattle.disk_records.specs.Events.{place_of_write}
use Rattle.disk_memory.proofs.sure.SureMachine.place_of_write.Given as goal

-- the events left have as many record writes to be counted as `left`
abbrev pub invariant-loop-place : goal.invariant-loop-place
invariant-loop-place l = place_of_write l.self.events.items l.k ≡ l.place + place_of_write (drop l.place l.self.events.items) l.left
