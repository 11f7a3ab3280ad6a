use Rattle.laws_names.proofs.inside.Staying.{nothing_keeps_entries}
use Rattle.laws_names.proofs.entries.nothing_keeps_entries.Goals as goal

pub returns : goal.returns
returns c = nothing_keeps_entries
