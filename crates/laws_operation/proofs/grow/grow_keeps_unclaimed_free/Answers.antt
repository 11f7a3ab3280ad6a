use Rattle.laws_operation.proofs.inside.looks.Freed.{grow_keeps_unclaimed_free}
use Rattle.laws_operation.proofs.grow.grow_keeps_unclaimed_free.Goals as goal

pub returns : goal.returns
returns c = grow_keeps_unclaimed_free
