use Rattle.laws_lookup.proofs.inside.Misleading.{hint_names_one_sector}
use Rattle.laws_lookup.proofs.hints.hint_names_one_sector.Goals as goal

pub returns : goal.returns
returns c = hint_names_one_sector
