use Rattle.std.proofs.Common.{◌≡◌, ◌++◌, List, length}
use Rattle.pack_model.specs.reading.Slots.{Item}
use Rattle.scav_names.specs.Rooms.{IsRow, free_slots}
use Rattle.scav_names.proofs.Taking.{IsTaken}
use Rattle.scav_names.proofs.rooms.Rooms.take_out.Given as goal

abbrev pub decreases-loop-taken : goal.decreases-loop-taken
decreases-loop-taken l = length l.self.free.entries

abbrev pub invariant-loop-taken : goal.invariant-loop-taken
invariant-loop-taken l = record {
  taken : (before row rest : List Item) → IsRow l.room before row rest → l.fn.self.free.entries ≡ free_slots 0 (before ++ (row ++ rest)) → IsTaken l.taken before row rest l.self.free.entries;
  end_is : l.self.end ≡ l.fn.self.end;
  from : l.self.from ≡ l.fn.self.from;
}
