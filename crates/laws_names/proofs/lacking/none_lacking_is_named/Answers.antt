use Rattle.laws_names.proofs.inside.Unlacking.{none_lacking_is_named}
use Rattle.laws_names.proofs.lacking.none_lacking_is_named.Goals as goal

pub returns : goal.returns
returns c = none_lacking_is_named
