use Rattle.laws_lookup.proofs.inside.Misleading.{hint_misled_before}
use Rattle.laws_lookup.proofs.hints.hint_misled_before.Goals as goal

pub returns : goal.returns
returns c = hint_misled_before
