use Rattle.laws_hint.proofs.inside.MarkedOperations.{releases_mark_the_map}
use Rattle.laws_hint.proofs.changes.releases_mark_the_map.Goals as goal

pub returns : goal.returns
returns c = releases_mark_the_map
