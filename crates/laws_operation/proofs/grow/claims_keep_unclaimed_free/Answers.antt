use Rattle.laws_operation.proofs.grow.Laws.{claims_keep_unclaimed_free}
use Rattle.laws_operation.proofs.grow.claims_keep_unclaimed_free.Goals as goal

pub returns : goal.returns
returns c = claims_keep_unclaimed_free
