use Rattle.laws_room.proofs.inside.Refused.{scavengeable_is_unrefused}
use Rattle.laws_room.proofs.rooms.scavengeable_is_unrefused.Goals as goal

pub returns : goal.returns
returns c = scavengeable_is_unrefused
