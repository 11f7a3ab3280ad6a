use Rattle.laws_room.proofs.inside.Kept.{loose_words_keeps_aside}
use Rattle.laws_room.proofs.keeping.loose_words_keeps_aside.Goals as goal

pub returns : goal.returns
returns c = loose_words_keeps_aside
