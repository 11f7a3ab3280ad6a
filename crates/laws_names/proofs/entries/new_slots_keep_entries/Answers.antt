use Rattle.laws_names.proofs.inside.Staying.{new_slots_keep_entries}
use Rattle.laws_names.proofs.entries.new_slots_keep_entries.Goals as goal

pub returns : goal.returns
returns c = new_slots_keep_entries
