use Rattle.std.proofs.Common.{refl}
use Rattle.scav_names.proofs.Growing.{slots_freed}
use Rattle.scav_names.proofs.rooms.Rooms.free.Goals as goal

pub returns : goal.returns
returns c = λ is has at most. slots_freed c.args.self.now _ c.args.place c.args.words is has at most c.in_ok-insert.ensures.entries refl refl
