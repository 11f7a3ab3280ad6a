use Rattle.std.proofs.Common.{◌≡◌, false, take}
use Rattle.std.specs.List.{list_any}
use Rattle.exec_session.specs.Streams.{has_file_in}
use Rattle.exec_session.proofs.streams.have_file.Given as goal

abbrev pub invariant-loop-slot : goal.invariant-loop-slot
invariant-loop-slot l = list_any (has_file_in l.fid) (take l.slot-index l.slots) ≡ false
