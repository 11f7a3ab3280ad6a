use Rattle.laws_hint.proofs.inside.ClosedMaps.{closed_map_is_true_where_it_was}
use Rattle.laws_hint.proofs.closing.closed_map_is_true_where_it_was.Goals as goal

pub returns : goal.returns
returns c = closed_map_is_true_where_it_was
