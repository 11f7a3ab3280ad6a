use Rattle.laws_room.proofs.inside.NextEntry.{next_entry_keeps}
use Rattle.laws_room.proofs.entering.next_entry_keeps.Goals as goal

pub returns : goal.returns
returns c = next_entry_keeps
