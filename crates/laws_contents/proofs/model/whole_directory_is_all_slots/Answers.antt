use Rattle.laws_contents.proofs.model.Laws.{whole_directory_is_all_slots}
use Rattle.laws_contents.proofs.model.whole_directory_is_all_slots.Goals as goal

pub returns : goal.returns
returns c = whole_directory_is_all_slots
