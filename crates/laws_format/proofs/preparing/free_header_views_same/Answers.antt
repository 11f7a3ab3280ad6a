use Rattle.laws_format.proofs.inside.Preparing.{free_header_views_same}
use Rattle.laws_format.proofs.preparing.free_header_views_same.Goals as goal

pub returns : goal.returns
returns c = free_header_views_same
