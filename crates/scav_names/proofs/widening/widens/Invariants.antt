use Rattle.std.proofs.Common.{◌+◌, ◌*◌, ◌<◌, List, length}
use Rattle.pack_model.specs.reading.Slots.{Item, all_words}
use Rattle.scav_names.specs.Rooms.{HasRooms}
use Rattle.scav_names.proofs.Placing.{IsPlacing}
use Rattle.scav_names.proofs.widening.widens.Given as goal

abbrev pub invariant-loop-file : goal.invariant-loop-file
invariant-loop-file l = (is : List Item) → HasRooms l.fn.rooms is → all_words is + 256 * length l.files < 4294967296 → IsPlacing l.rooms l.files l.file-index l.more is
