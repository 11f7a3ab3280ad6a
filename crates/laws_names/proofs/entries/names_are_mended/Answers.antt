use Rattle.laws_names.proofs.inside.Ending.{names_are_mended}
use Rattle.laws_names.proofs.entries.names_are_mended.Goals as goal

pub returns : goal.returns
returns c = names_are_mended
