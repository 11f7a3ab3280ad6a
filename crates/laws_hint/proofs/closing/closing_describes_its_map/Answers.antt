use Rattle.laws_hint.proofs.inside.ClosedMaps.{closing_describes_its_map}
use Rattle.laws_hint.proofs.closing.closing_describes_its_map.Goals as goal

pub returns : goal.returns
returns c = closing_describes_its_map
