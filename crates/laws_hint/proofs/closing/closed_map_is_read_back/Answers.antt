use Rattle.laws_hint.proofs.inside.ClosedMaps.{closed_map_is_read_back}
use Rattle.laws_hint.proofs.closing.closed_map_is_read_back.Goals as goal

pub returns : goal.returns
returns c = closed_map_is_read_back
