use Rattle.laws_lookup.proofs.inside.BeforeGrown.{widen_misled_before}
use Rattle.laws_lookup.proofs.before.widen_misled_before.Goals as goal

pub returns : goal.returns
returns c = widen_misled_before
