use Rattle.laws_steps.proofs.inside.Dropping.{drop_is_joined}
use Rattle.laws_steps.proofs.dropping.drop_is_joined.Goals as goal

pub returns : goal.returns
returns g c = drop_is_joined _ _ _ _
