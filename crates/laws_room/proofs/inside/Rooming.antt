-- The numbers of a pack.
use Rattle.laws_operation.specs.pack_model.specs.reading.Sights.{sights}
use Rattle.laws_room.proofs.inside.Counting.{available_is, in_use_many}
use Rattle.laws_room.proofs.inside.Needing.{needed_is, room_is}
use Rattle.laws_room.specs.CountLaws.{CountingTheorem}
use Rattle.laws_operation.specs.pack_laws.proofs.Placing.{short_pages}

-- the counting theorem
pub counting_theorem : CountingTheorem
counting_theorem p =
    let r = room_is p.shape (sights p) (short_pages p) in
    record {
      in_use = in_use_many p.shape (sights p);
      available_is = available_is p.shape (sights p);
      needed_is = needed_is p.shape (sights p) (short_pages p);
      room = (r.0, r.1);
    }
