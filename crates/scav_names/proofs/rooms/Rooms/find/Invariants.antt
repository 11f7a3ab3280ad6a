use Rattle.std.proofs.Common.{List}
use Rattle.pack_model.specs.reading.Slots.{Item}
use Rattle.scav_names.specs.Rooms.{HasRooms}
use Rattle.scav_names.proofs.Finding.{IsAhead}
use Rattle.scav_names.proofs.rooms.Rooms.find.Given as goal

abbrev pub invariant-loop-place : goal.invariant-loop-place
invariant-loop-place l = record {
  next : (goal.iterator-loop-place).can_next l.place-iterator;
  finite : (goal.iterator-loop-place).is_finite l.place-iterator;
  ahead : (is : List Item) → HasRooms l.self is → IsAhead l.words l.place-iterator is;
}
