use Rattle.laws_operation.proofs.inside.looks.ReadFiles.{items_are_slots}
use Rattle.laws_operation.proofs.entries.items_are_slots.Goals as goal

pub returns : goal.returns
returns c = items_are_slots
