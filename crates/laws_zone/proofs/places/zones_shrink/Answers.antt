use Rattle.laws_zone.proofs.inside.Shrinking.{zones_shrink}
use Rattle.laws_zone.proofs.places.zones_shrink.Goals as goal

pub returns : goal.returns
returns c = zones_shrink
