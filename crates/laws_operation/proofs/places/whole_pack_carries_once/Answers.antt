use Rattle.laws_operation.proofs.inside.links.OnceOthers.{whole_pack_carries_once}
use Rattle.laws_operation.proofs.places.whole_pack_carries_once.Goals as goal

pub returns : goal.returns
returns c = whole_pack_carries_once
