use Rattle.laws_mend.proofs.inside.Slotting.{loose_words_keep_slots}
use Rattle.laws_mend.proofs.slots.loose_words_keep_slots.Goals as goal

pub returns : goal.returns
returns c = loose_words_keep_slots
