use Rattle.laws_room.proofs.SoundPacks.{sound_needs_nothing}
use Rattle.laws_room.proofs.rooms.sound_needs_nothing.Goals as goal

pub returns : goal.returns
returns c = sound_needs_nothing
