use Rattle.laws_zone.proofs.inside.Replacing.{other_blocks_stand_in_place}
use Rattle.laws_zone.proofs.places.other_blocks_stand_in_place.Goals as goal

pub returns : goal.returns
returns c = other_blocks_stand_in_place
