use Rattle.std.proofs.Common.{List, ◌<◌}
use Rattle.pack_model.specs.reading.Slots.{Item}
use Rattle.scav_names.specs.Rooms.{AreAt}
use Rattle.scav_names.proofs.Runs.{IsAlong}
use Rattle.scav_names.proofs.rooms.total_at.Given as goal

abbrev pub invariant-loop : goal.invariant-loop
invariant-loop l = record {
  short : l.total < l.words;
  along : (before rest : List Item) → AreAt l.free.entries l.place before rest → IsAlong l.total l.counter rest;
}
