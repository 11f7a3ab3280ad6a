use Rattle.laws_room.proofs.SystemFiles.{scavengeable_by_model}
use Rattle.laws_room.proofs.rooms.scavengeable_by_model.Goals as goal

pub returns : goal.returns
returns c = scavengeable_by_model
