use Rattle.laws_room.proofs.shown.Laws.{settling_again_changes_nothing}
use Rattle.laws_room.proofs.shown.settling_again_changes_nothing.Goals as goal

pub returns : goal.returns
returns c = settling_again_changes_nothing
