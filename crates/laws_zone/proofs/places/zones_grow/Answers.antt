use Rattle.laws_zone.proofs.inside.Growing.{zones_grow}
use Rattle.laws_zone.proofs.places.zones_grow.Goals as goal

pub returns : goal.returns
returns c = zones_grow
