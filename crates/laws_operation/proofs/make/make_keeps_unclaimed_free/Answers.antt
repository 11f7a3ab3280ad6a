use Rattle.laws_operation.proofs.inside.looks.Freed.{make_keeps_unclaimed_free}
use Rattle.laws_operation.proofs.make.make_keeps_unclaimed_free.Goals as goal

pub returns : goal.returns
returns c = make_keeps_unclaimed_free
