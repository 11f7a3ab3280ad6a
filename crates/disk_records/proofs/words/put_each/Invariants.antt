use Rattle.std.proofs.Common.{◌≡◌, take}
use Rattle.disk_records.specs.Bytes.{bytes_of, put_at}
use Rattle.disk_records.proofs.words.put_each.Given as goal

abbrev pub invariant-loop-i : goal.invariant-loop-i
invariant-loop-i l = bytes_of l.value ≡ put_at l.offset (take l.i l.bytes) (bytes_of l.initial.value)
