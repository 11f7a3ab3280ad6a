use Rattle.pack_laws.proofs.inside.Filing.{places_are_lowest}
use Rattle.pack_laws.proofs.files.places_are_lowest.Goals as goal

pub returns : goal.returns
returns c = places_are_lowest
