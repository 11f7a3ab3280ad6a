use Rattle.laws_zone.proofs.inside.Replacing.{only_the_zone_changes}
use Rattle.laws_zone.proofs.places.only_the_zone_changes.Goals as goal

pub returns : goal.returns
returns c = only_the_zone_changes
