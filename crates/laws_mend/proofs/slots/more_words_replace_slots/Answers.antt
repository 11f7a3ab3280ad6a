use Rattle.laws_mend.proofs.inside.Slotting.{more_words_replace_slots}
use Rattle.laws_mend.proofs.slots.more_words_replace_slots.Goals as goal

pub returns : goal.returns
returns c = more_words_replace_slots
