use Rattle.laws_room.proofs.shown.Laws.{sound_pack_shows_its_view}
use Rattle.laws_room.proofs.shown.sound_pack_shows_its_view.Goals as goal

pub returns : goal.returns
returns c = sound_pack_shows_its_view
