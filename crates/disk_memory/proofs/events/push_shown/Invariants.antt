use Rattle.std.proofs.Common.{◌≡◌, ◌+◌, ◌≤◌, ◌++◌, take}
use Rattle.std.specs.Vec.{vec_len, vec_capacity}
use Rattle.disk_records.specs.Events.{shown_events}
use Rattle.disk_memory.proofs.events.push_shown.Given as goal

abbrev pub invariant-loop-byte : goal.invariant-loop-byte
invariant-loop-byte l = record {
  items : l.events.items ≡ l.fn.events.items ++ shown_events (take l.byte-index l.bytes);
  len : vec_len l.events ≡ vec_len l.fn.events + l.byte-index;
  capacity : vec_capacity l.fn.events ≤ vec_capacity l.events;
}
