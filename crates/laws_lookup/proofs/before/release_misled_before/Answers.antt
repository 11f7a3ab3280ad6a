use Rattle.laws_lookup.proofs.inside.Before.{release_misled_before}
use Rattle.laws_lookup.proofs.before.release_misled_before.Goals as goal

pub returns : goal.returns
returns c = release_misled_before
