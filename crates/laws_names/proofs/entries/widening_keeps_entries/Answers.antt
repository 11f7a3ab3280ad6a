use Rattle.laws_names.proofs.inside.Staying.{widening_keeps_entries}
use Rattle.laws_names.proofs.entries.widening_keeps_entries.Goals as goal

pub returns : goal.returns
returns c = widening_keeps_entries
