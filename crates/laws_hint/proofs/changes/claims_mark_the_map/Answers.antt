use Rattle.laws_hint.proofs.inside.MarkedOperations.{claims_mark_the_map}
use Rattle.laws_hint.proofs.changes.claims_mark_the_map.Goals as goal

pub returns : goal.returns
returns c = claims_mark_the_map
